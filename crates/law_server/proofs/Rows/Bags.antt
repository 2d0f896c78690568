-- What is taken of a bag of items.
use Rattle.std.proofs.Common.{◌≡◌, Bool, true, false, cond, List, [], ◌∷◌, length, map, refl, ◌∙◌, sym}
use Rattle.std.proofs.lemmas.Slice.Zip.{AllZip-long}
use Rattle.std.specs.List.{AllZip, filter, list_any}
use Rattle.sql_eval.specs.Moved.{Moved, none, more, swapped, along}
use Rattle.sql_eval.proofs.Moved.{moved_any, moved_length}
use Rattle.law_server.specs.Rows.Bags.{AreBags}

pub moved_same : {A : Type 0} (xs : List A) → Moved xs xs
moved_same [] = none
moved_same (x ∷ xs) = more x xs xs (moved_same xs)

pub moved_back : {A : Type 0} {xs ys : List A} → Moved xs ys → Moved ys xs
moved_back none = none
moved_back (more x xs ys m) = more x ys xs (moved_back m)
moved_back (swapped x y xs) = swapped y x xs
moved_back (along xs ys zs m n) = along zs ys xs (moved_back n) (moved_back m)

pub moved_map : {A B : Type 0} (f : A → B) {xs ys : List A} → Moved xs ys → Moved (map f xs) (map f ys)
moved_map f none = none
moved_map f (more x xs ys m) = more (f x) (map f xs) (map f ys) (moved_map f m)
moved_map f (swapped x y xs) = swapped (f x) (f y) (map f xs)
moved_map f (along xs ys zs m n) = along _ _ _ (moved_map f m) (moved_map f n)

module _ {A : Type 0} (p : A → Bool) where
  kept_more : (b : Bool) (x : A) {xs ys : List A} → Moved xs ys → Moved (cond b (x ∷ xs) xs) (cond b (x ∷ ys) ys)
  kept_more true x {xs} {ys} m = more x xs ys m
  kept_more false x m = m

  kept_swapped : (a b : Bool) (x y : A) (xs : List A) → Moved (cond a (x ∷ cond b (y ∷ xs) xs) (cond b (y ∷ xs) xs)) (cond b (y ∷ cond a (x ∷ xs) xs) (cond a (x ∷ xs) xs))
  kept_swapped true true x y xs = swapped x y xs
  kept_swapped true false x y xs = moved_same (x ∷ xs)
  kept_swapped false true x y xs = moved_same (y ∷ xs)
  kept_swapped false false x y xs = moved_same xs

  pub moved_filter : {xs ys : List A} → Moved xs ys → Moved (filter p xs) (filter p ys)
  moved_filter none = none
  moved_filter (more x xs ys m) = kept_more (p x) x (moved_filter m)
  moved_filter (swapped x y xs) = kept_swapped (p x) (p y) x y (filter p xs)
  moved_filter (along xs ys zs m n) = along _ _ _ (moved_filter m) (moved_filter n)

-- ---- related lists

module _ {A B : Type 0} (R : A → B → Type 0) where
  pub zipped_any : (p : A → Bool) (q : B → Bool) → ((x : A) (y : B) → R x y → p x ≡ q y) → (xs : List A) (ys : List B) → AllZip R xs ys → list_any p xs ≡ list_any q ys
  zipped_any p q alike [] [] z = refl
  zipped_any p q alike (x ∷ xs) (y ∷ ys) z = rw (alike x y z.0, zipped_any p q alike xs ys z.1) refl
  zipped_any p q alike [] (y ∷ ys) z = absurd z
  zipped_any p q alike (x ∷ xs) [] z = absurd z

  pub zipped_map : {C D : Type 0} (S : C → D → Type 0) (f : A → C) (g : B → D) → ((x : A) (y : B) → R x y → S (f x) (g y)) → (xs : List A) (ys : List B) → AllZip R xs ys → AllZip S (map f xs) (map g ys)
  zipped_map S f g carried [] [] z = tt
  zipped_map S f g carried (x ∷ xs) (y ∷ ys) z = (carried x y z.0, zipped_map S f g carried xs ys z.1)
  zipped_map S f g carried [] (y ∷ ys) z = absurd z
  zipped_map S f g carried (x ∷ xs) [] z = absurd z

  kept_zipped : (a b : Bool) → a ≡ b → (x : A) (y : B) (xs : List A) (ys : List B) → R x y → AllZip R xs ys → AllZip R (cond a (x ∷ xs) xs) (cond b (y ∷ ys) ys)
  kept_zipped true true e x y xs ys r z = (r, z)
  kept_zipped false false e x y xs ys r z = z
  kept_zipped true false e x y xs ys r z = absurd (cc)
  kept_zipped false true e x y xs ys r z = absurd (cc)

  pub zipped_filter : (p : A → Bool) (q : B → Bool) → ((x : A) (y : B) → R x y → p x ≡ q y) → (xs : List A) (ys : List B) → AllZip R xs ys → AllZip R (filter p xs) (filter q ys)
  zipped_filter p q alike [] [] z = tt
  zipped_filter p q alike (x ∷ xs) (y ∷ ys) z = kept_zipped (p x) (q y) (alike x y z.0) x y _ _ z.0 (zipped_filter p q alike xs ys z.1)
  zipped_filter p q alike [] (y ∷ ys) z = absurd z
  zipped_filter p q alike (x ∷ xs) [] z = absurd z

  -- the first list in another order
  pub zipped_turn : {xs ys : List A} → Moved xs ys → (zs : List B) → AllZip R ys zs → (us : List B) × AllZip R xs us × Moved us zs
  zipped_turn none [] z = ([], tt, none)
  zipped_turn none (c ∷ cs) z = absurd z
  zipped_turn (more x xs ys m) [] z = absurd z
  zipped_turn (more x xs ys m) (c ∷ cs) z = let t = zipped_turn m cs z.1 in (c ∷ t.0, (z.0, t.1), more c t.0 cs t.2)
  zipped_turn (swapped x y xs) [] z = absurd z
  zipped_turn (swapped x y xs) (c ∷ []) z = absurd z.1
  zipped_turn (swapped x y xs) (c ∷ d ∷ cs) z = (d ∷ c ∷ cs, (z.1.0, (z.0, z.1.1)), swapped d c cs)
  zipped_turn (along xs ys zs m n) cs z =
      let t = zipped_turn n cs z in
      let s = zipped_turn m t.0 t.1 in
      (s.0, s.1, along s.0 t.0 cs s.2 t.2)

  -- ---- bags

  pub bags_any : (p : A → Bool) (q : B → Bool) → ((x : A) (y : B) → R x y → p x ≡ q y) → {xs : List A} {ys : List B} → AreBags R xs ys → list_any p xs ≡ list_any q ys
  bags_any p q alike {xs} {ys} bags = zipped_any p q alike xs bags.turned bags.related ∙ moved_any q bags.moved

  pub bags_length : {xs : List A} {ys : List B} → AreBags R xs ys → length xs ≡ length ys
  bags_length {xs} {ys} bags = sym (AllZip-long R xs bags.turned bags.related) ∙ moved_length bags.moved

  pub bags_filter : (p : A → Bool) (q : B → Bool) → ((x : A) (y : B) → R x y → p x ≡ q y) → {xs : List A} {ys : List B} → AreBags R xs ys → AreBags R (filter p xs) (filter q ys)
  bags_filter p q alike {xs} {ys} bags = record { turned = filter q bags.turned; related = zipped_filter p q alike xs bags.turned bags.related; moved = moved_filter q bags.moved }

  pub bags_map : {C D : Type 0} (S : C → D → Type 0) (f : A → C) (g : B → D) → ((x : A) (y : B) → R x y → S (f x) (g y)) → {xs : List A} {ys : List B} → AreBags R xs ys → AreBags S (map f xs) (map g ys)
  bags_map S f g carried {xs} {ys} bags = record { turned = map g bags.turned; related = zipped_map S f g carried xs bags.turned bags.related; moved = moved_map g bags.moved }

  -- bags with both lists in other orders
  pub bags_turned : {xs us : List A} {ys vs : List B} → Moved us xs → Moved vs ys → AreBags R xs ys → AreBags R us vs
  bags_turned {us = us} {vs = vs} m n bags =
      let t = zipped_turn m bags.turned bags.related in
      record { turned = t.0; related = t.1; moved = along _ _ _ t.2 (along _ _ _ bags.moved (moved_back n)) }
