-- Rows of which each stands once: as sets they are renamed one to one.
use Rattle.std.proofs.Common.{◌≡◌, ℕ, ◌+◌, ◌≤◌, List, [], ◌∷◌, sym, ap, subst, ◌∙◌, arith, ⊎_elim}
use Rattle.std.specs.List.{AllZip, Contains}
use Rattle.std.proofs.lemmas.Bool.{eqb-true, eq-eqb}
use Rattle.desk_values.specs.declared.value.Image.{Image}
use Rattle.sql_eval.specs.Moved.{Moved, none, more, swapped, along}
use Rattle.server_words.specs.Rows.{IsRising, RisesFrom}
use Rattle.id_pairs.specs.declared.Id.TheVariants.{Row}
use Rattle.id_pairs.specs.Pairs.{HasNoIdTwice, IdPair}
use Rattle.law_server.specs.Rows.Bags.{AreBags}
use Rattle.law_server.specs.Rows.Images.{IsRenamedImage}
use Rattle.law_server.proofs.Rows.Members.{same_ids}
use Rattle.law_server.proofs.Rows.Bags.{bags_turned, moved_back, moved_same}
use Rattle.law_server.specs.Renaming.Twins.{AreSets}
use Rattle.desk_schema.proofs.Members.{Contains-cases, Contains-here, Contains-none, Contains-there}

-- ---- members in another order

module _ {A : Type 0} where
  moved_in : {xs ys : List A} → Moved xs ys → (z : A) → Contains xs z → Contains ys z
  moved_in none z c = c
  moved_in (more x xs ys m) z c = ⊎_elim
      (λ is. let P : A → Type 0 = λ w. Contains (x ∷ ys) w in subst P is (Contains-here x ys))
      (λ later. Contains-there x ys z (moved_in m z later))
      (Contains-cases x xs z c)
  moved_in (swapped x y xs) z c = ⊎_elim
      (λ is. let P : A → Type 0 = λ w. Contains (y ∷ x ∷ xs) w in subst P is (Contains-there y (x ∷ xs) x (Contains-here x xs)))
      (λ later. ⊎_elim
      (λ is. let P : A → Type 0 = λ w. Contains (y ∷ x ∷ xs) w in subst P is (Contains-here y (x ∷ xs)))
      (λ last. Contains-there y (x ∷ xs) z (Contains-there x xs z last))
      (Contains-cases y xs z later))
      (Contains-cases x (y ∷ xs) z c)
  moved_in (along xs ys zs m n) z c = moved_in n z (moved_in m z c)

  -- a member may stand first
  front : (ys : List A) (y : A) → Contains ys y → (rest : List A) × Moved (y ∷ rest) ys
  front [] y c = absurd (Contains-none y c)
  front (z ∷ zs) y c = ⊎_elim
      (λ is. (zs, (let P : A → Type 0 = λ w. Moved (w ∷ zs) (z ∷ zs) in subst P is (moved_same (z ∷ zs)))))
      (λ later. let t = front zs y later in (z ∷ t.0, along _ _ _ (swapped y z t.0) (more z _ _ t.1)))
      (Contains-cases z zs y c)

-- ---- each row once

abbrev RowsDiffer : List Image → Type 0
RowsDiffer [] = Unit {0}
RowsDiffer (image ∷ images) = ((other : Image) → Contains images other → other.row ≡ image.row → ⊥) × RowsDiffer images

pub least_row : (n : ℕ) (images : List Image) → RisesFrom n images → (other : Image) → Contains images other → n ≤ other.row
least_row n [] rises other c = absurd (Contains-none other c)
least_row n (image ∷ images) rises other c = ⊎_elim
    (λ is. let P : Image → Type 0 = λ x. n ≤ x.row in subst P is rises.0)
    (λ later. omega (arith, rises.0, least_row (image.row + 1) images rises.1 other later))
    (Contains-cases image images other c)

rows_differ : (n : ℕ) (images : List Image) → RisesFrom n images → RowsDiffer images
rows_differ n [] rises = tt
rows_differ n (image ∷ images) rises = (λ other c e. absurd (omega (arith, e, least_row (image.row + 1) images rises.1 other c)), rows_differ (image.row + 1) images rises.1)

moved_differ : {xs ys : List Image} → Moved xs ys → RowsDiffer xs → RowsDiffer ys
moved_differ none d = d
moved_differ (more x xs ys m) d = (λ other c e. d.0 other (moved_in (moved_back m) other c) e, moved_differ m d.1)
moved_differ (swapped x y xs) d = (
  λ other c e. ⊎_elim
      (λ is. d.0 y (Contains-here y xs) (sym e ∙ ap (λ (w : Image). w.row) (sym is)))
      (λ later. d.1.0 other later e)
      (Contains-cases x xs other c),
  (λ other c e. d.0 other (Contains-there y xs other c) e, d.1.1),
)
moved_differ (along xs ys zs m n) d = moved_differ n (moved_differ m d)

module _ (pairs : List IdPair) (once : HasNoIdTwice pairs) where
  one_row : (a b x y : ℕ) → Contains pairs (Row a, Row x) → Contains pairs (Row b, Row y) → x ≡ y → a ≡ b
  one_row a b x y c d e = eqb-true a b (same_ids pairs once (Row a) (Row b) (Row x) (Row y) c d ∙ eq-eqb x y e)

  one_image : (a b x y : ℕ) → Contains pairs (Row a, Row x) → Contains pairs (Row b, Row y) → a ≡ b → x ≡ y
  one_image a b x y c d e = eqb-true x y (sym (same_ids pairs once (Row a) (Row b) (Row x) (Row y) c d) ∙ eq-eqb a b e)

  differ_bags : (xs ys : List Image) → RowsDiffer xs → RowsDiffer ys → AreSets (IsRenamedImage pairs) xs ys → AreBags (IsRenamedImage pairs) xs ys
  differ_bags [] [] d e sets = record { turned = []; related = tt; moved = none }
  differ_bags [] (y ∷ ys) d e sets = absurd (Contains-none _ (sets.back y (Contains-here y ys)).1)
  differ_bags (x ∷ xs) ys d e sets =
      let t = sets.forth x (Contains-here x xs) in
      let f = front ys t.0 t.1 in
      let g = moved_differ (moved_back f.1) e in
      let rest : AreSets (IsRenamedImage pairs) xs f.0 = record {
        forth = λ a c. let s = sets.forth a (Contains-there x xs a c) in ⊎_elim
            (λ is. absurd (d.0 a c (one_row a.row x.row s.0.row t.0.row s.2.row t.2.row (ap (λ (w : Image). w.row) (sym is)))))
            (λ later. (s.0, later, s.2))
            (Contains-cases t.0 f.0 s.0 (moved_in (moved_back f.1) s.0 s.1));
        back = λ b c. let s = sets.back b (moved_in f.1 b (Contains-there t.0 f.0 b c)) in ⊎_elim
            (λ is. absurd (g.0 b c (one_image s.0.row x.row b.row t.0.row s.2.row t.2.row (ap (λ (w : Image). w.row) (sym is)))))
            (λ later. (s.0, later, s.2))
            (Contains-cases x xs s.0 s.1);
      } in
      let bags = differ_bags xs f.0 d.1 g.1 rest in
      bags_turned (IsRenamedImage pairs) (moved_same (x ∷ xs)) (moved_back f.1) (record { turned = t.0 ∷ bags.turned; related = (t.2, bags.related); moved = more t.0 bags.turned f.0 bags.moved })

  pub rising_bags : (xs ys : List Image) → IsRising xs → IsRising ys → AreSets (IsRenamedImage pairs) xs ys → AreBags (IsRenamedImage pairs) xs ys
  rising_bags xs ys rises others sets = differ_bags xs ys (rows_differ 0 xs rises) (rows_differ 0 ys others) sets

-- ---- and back

module _ {A B : Type 0} (R : A → B → Type 0) where
  zipped_forth : (xs : List A) (ys : List B) → AllZip R xs ys → (x : A) → Contains xs x → (y : B) × Contains ys y × R x y
  zipped_forth [] ys z x c = absurd (Contains-none x c)
  zipped_forth (a ∷ as_) [] z x c = absurd z
  zipped_forth (a ∷ as_) (b ∷ bs) z x c = ⊎_elim
      (λ is. (b, Contains-here b bs, (let P : A → Type 0 = λ w. R w b in subst P is z.0)))
      (λ later. let t = zipped_forth as_ bs z.1 x later in (t.0, Contains-there b bs t.0 t.1, t.2))
      (Contains-cases a as_ x c)

  zipped_back : (xs : List A) (ys : List B) → AllZip R xs ys → (y : B) → Contains ys y → (x : A) × Contains xs x × R x y
  zipped_back xs [] z y c = absurd (Contains-none y c)
  zipped_back [] (b ∷ bs) z y c = absurd z
  zipped_back (a ∷ as_) (b ∷ bs) z y c = ⊎_elim
      (λ is. (a, Contains-here a as_, (let P : B → Type 0 = λ w. R a w in subst P is z.0)))
      (λ later. let t = zipped_back as_ bs z.1 y later in (t.0, Contains-there a as_ t.0 t.1, t.2))
      (Contains-cases b bs y c)

  pub bags_sets : (xs : List A) (ys : List B) → AreBags R xs ys → AreSets R xs ys
  bags_sets xs ys bags = record {
    forth = λ x c. let t = zipped_forth xs bags.turned bags.related x c in (t.0, moved_in bags.moved t.0 t.1, t.2);
    back = λ y c. zipped_back xs bags.turned bags.related y (moved_in (moved_back bags.moved) y c);
  }
