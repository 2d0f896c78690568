-- Views that are handed out are twins exactly where what they are handed out of is.
use Rattle.std.proofs.Common.{◌≡◌, ℕ, List, [], ◌∷◌, map, refl, sym, subst, ⊎_elim}
use Rattle.std.specs.List.{Contains}
use Rattle.desk_schema.proofs.Members.{Contains-cases, Contains-here, Contains-none, Contains-there}
use Rattle.desk_values.specs.declared.value.Image.{Image}
use Rattle.server_words.specs.Rows.{IsRising, row_numbers}
use Rattle.id_pairs.specs.Pairs.{IdPair}
use Rattle.law_server.specs.Rows.Images.{IsRenamedImage}
use Rattle.law_server.specs.Renaming.Twins.{AreSets, IsRenamedRow}
use Rattle.law_replays.proofs.End.Classes.{one_image}

-- ---- members

pub preimage : {A C : Type 0} (f : A → C) (xs : List A) (c : C) → Contains (map f xs) c → (x : A) × Contains xs x × (f x ≡ c)
preimage f [] c there = absurd (Contains-none c there)
preimage f (x ∷ xs) c there = ⊎_elim
    (λ same. (x, Contains-here x xs, same))
    (λ later. let t = preimage f xs c later in (t.0, Contains-there x xs t.0 t.1, t.2))
    (Contains-cases (f x) (map f xs) c there)

pub mapped : {A C : Type 0} (f : A → C) (xs : List A) (x : A) → Contains xs x → Contains (map f xs) (f x)
mapped f [] x there = absurd (Contains-none x there)
mapped f (y ∷ xs) x there = ⊎_elim
    (λ same. subst (λ z. Contains (map f (y ∷ xs)) (f z)) same (Contains-here (f y) (map f xs)))
    (λ later. Contains-there (f y) (map f xs) (f x) (mapped f xs x later))
    (Contains-cases y xs x there)

-- two lists have the same items
pub record HaveSame {A : Type 0} (xs ys : List A) : Type 0 where
  pub forth : (x : A) → Contains xs x → Contains ys x
  pub back : (x : A) → Contains ys x → Contains xs x

module _ {A B : Type 0} (R : A → B → Type 0) where
  -- how often and in what order items stand does not matter to sets
  pub sets_same : (xs xs' : List A) (ys ys' : List B) → HaveSame xs xs' → HaveSame ys ys' → AreSets R xs ys → AreSets R xs' ys'
  sets_same xs xs' ys ys' one other sets = record {
    forth = λ x c. let s = sets.forth x (one.back x c) in (s.0, other.forth s.0 s.1, s.2);
    back = λ y c. let s = sets.back y (other.back y c) in (s.0, one.forth s.0 s.1, s.2);
  }

module _ {A B C D : Type 0} (f : A → C) (g : B → D) (R : A → B → Type 0) (S : C → D → Type 0) where
  pub sets_mapped : ((x : A) (y : B) → R x y → S (f x) (g y)) → (xs : List A) (ys : List B) → AreSets R xs ys → AreSets S (map f xs) (map g ys)
  sets_mapped to xs ys sets = record {
    forth = λ c there. let p = preimage f xs c there in let s = sets.forth p.0 p.1 in (g s.0, mapped g ys s.0 s.1, subst (λ z. S z (g s.0)) p.2 (to p.0 s.0 s.2));
    back = λ d there. let p = preimage g ys d there in let s = sets.back p.0 p.1 in (f s.0, mapped f xs s.0 s.1, subst (S (f s.0)) p.2 (to s.0 p.0 s.2));
  }

  pub sets_unmapped : ((x : A) (y : B) → S (f x) (g y) → R x y) → (xs : List A) (ys : List B) → AreSets S (map f xs) (map g ys) → AreSets R xs ys
  sets_unmapped to xs ys sets = record {
    forth = λ x c. let s = sets.forth (f x) (mapped f xs x c) in let p = preimage g ys s.0 s.1 in (p.0, p.1, to x p.0 (subst (S (f x)) (sym p.2) s.2));
    back = λ y c. let s = sets.back (g y) (mapped g ys y c) in let p = preimage f xs s.0 s.1 in (p.0, p.1, to p.0 y (subst (λ z. S z (g y)) (sym p.2) s.2));
  }

-- ---- held rows, by their numbers

module _ (pairs : List IdPair) where
  abbrev number : Image → ℕ
  number image = image.row

  pub numbers_of : (locked others : List Image) → AreSets (IsRenamedImage pairs) locked others → AreSets (IsRenamedRow pairs) (row_numbers locked) (row_numbers others)
  numbers_of locked others sets = sets_mapped number number (IsRenamedImage pairs) (IsRenamedRow pairs) (λ x y t. t.row) locked others sets

  -- Rows are twins, and those that are held are some of them: then their numbers tell them. `one_to` and `to_one` say that no id
  -- stands twice on one side.
  pub images_of : (one_to : (x y a b : Image) → IsRenamedRow pairs x.row a.row → IsRenamedRow pairs y.row b.row → x.row ≡ y.row → a.row ≡ b.row)
      → (to_one : (x y a b : Image) → IsRenamedRow pairs x.row a.row → IsRenamedRow pairs y.row b.row → a.row ≡ b.row → x.row ≡ y.row)
      → (rows others locked held : List Image) → IsRising rows → IsRising others
      → ((x : Image) → Contains locked x → Contains rows x) → ((y : Image) → Contains held y → Contains others y)
      → AreSets (IsRenamedImage pairs) rows others → AreSets (IsRenamedRow pairs) (row_numbers locked) (row_numbers held)
      → AreSets (IsRenamedImage pairs) locked held
  images_of one_to to_one rows others locked held up rise part piece twins numbers = record {
    forth = λ x c.
        let t = twins.forth x (part x c) in
        let n = numbers.forth x.row (mapped number locked x c) in
        let z = preimage number held n.0 n.1 in
        let same = one_to x x t.0 z.0 t.2.row (subst (IsRenamedRow pairs x.row) (sym z.2) n.2) refl in
        (t.0, subst (Contains held) (one_image others 0 rise z.0 t.0 (piece z.0 z.1) t.1 (sym same)) z.1, t.2);
    back = λ y c.
        let t = twins.back y (piece y c) in
        let n = numbers.back y.row (mapped number held y c) in
        let z = preimage number locked n.0 n.1 in
        let same = to_one t.0 z.0 y y t.2.row (subst (λ k. IsRenamedRow pairs k y.row) (sym z.2) n.2) refl in
        (t.0, subst (Contains locked) (one_image rows 0 up z.0 t.0 (part z.0 z.1) t.1 (sym same)) z.1, t.2);
  }
