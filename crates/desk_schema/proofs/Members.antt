-- Members of a list, by its head and tail.
use Rattle.std.proofs.Common.{◌≡◌, ℕ, zero, suc, ◌+◌, ◌<◌, ◌≤◌, List, [], ◌∷◌, length, map, get_or, drop, refl, sym, ◌∙◌, ap, subst, arith, ◌⊎◌, inl, inr, ⊎_elim}
use Rattle.std.proofs.lemmas.List.{drop_more, drop_all}
use Rattle.std.specs.List.{Contains}
use Rattle.std.proofs.lemmas.List.Elements.{Contains-append_right}

pub Contains-none : {X : Type 0} (y : X) → Contains {X = X} [] y → ⊥
Contains-none y c = absurd (omega (arith, c.1))

pub Contains-here : {X : Type 0} (x : X) (xs : List X) → Contains (x ∷ xs) x
Contains-here x xs = (0, omega arith, refl)

pub Contains-there : {X : Type 0} (x : X) (xs : List X) (y : X) → Contains xs y → Contains (x ∷ xs) y
Contains-there x xs y c = Contains-append_right (x ∷ []) xs y c

contains_at : {X : Type 0} (x : X) (xs : List X) (y : X) (k : ℕ) → k < length (x ∷ xs) → get_or (x ∷ xs) k y ≡ y → (x ≡ y) ⊎ Contains xs y
contains_at x xs y zero l e = inl e
contains_at x xs y (suc k) l e = inr (k, omega arith, e)

pub Contains-cases : {X : Type 0} (x : X) (xs : List X) (y : X) → Contains (x ∷ xs) y → (x ≡ y) ⊎ Contains xs y
Contains-cases x xs y c = contains_at x xs y c.0 c.1 c.2

module _ {N : Type 0} (name_in : N → List ℕ) where
  map_contains : (items : List N) (i : ℕ) (item : N) → i < length items → Contains (map name_in items) (name_in (get_or items i item))
  map_contains [] i item here = absurd (omega arith)
  map_contains (x ∷ xs) zero item here = Contains-here (name_in x) (map name_in xs)
  map_contains (x ∷ xs) (suc i) item here = Contains-there (name_in x) (map name_in xs) (name_in (get_or xs i item)) (map_contains xs i item (omega arith))

  -- the item at a place has its name
  pub named_here : (items : List N) (i : ℕ) (item : N) (name : List ℕ) → i < length items → item ≡ get_or items i item → name_in item ≡ name → Contains (map name_in items) name
  named_here items i item name here is same = let P : List ℕ → Type 0 = λ x. Contains (map name_in items) x in subst P (ap name_in (sym is) ∙ same) (map_contains items i item here)

  -- a name in all stands in what is left after the first i
  abbrev pub Remains : List N → ℕ → List ℕ → Type 0
  Remains items i name = Contains (map name_in items) name → Contains (map name_in (drop i items)) name

  pub one_passed : (items : List N) (i : ℕ) (item : N) (name : List ℕ) → i < length items → item ≡ get_or items i item → (name_in item ≡ name → ⊥) → Remains items i name → Remains items (i + 1) name
  one_passed items i item name here is other remains there =
      let P : List N → Type 0 = λ rest. Contains (map name_in rest) name in
      ⊎_elim (λ same. absurd (other (ap name_in is ∙ same))) (λ later. later)
      (Contains-cases (name_in (get_or items i item)) (map name_in (drop (i + 1) items)) name (subst P (drop_more items i item here) (remains there)))

  pub all_passed : (items : List N) (i : ℕ) (name : List ℕ) → length items ≤ i → Remains items i name → Contains (map name_in items) name → ⊥
  all_passed items i name end remains there = let P : List N → Type 0 = λ rest. Contains (map name_in rest) name in Contains-none name (subst P (drop_all i items end) (remains there))
