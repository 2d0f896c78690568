-- Lists changed at the place of a number or a key.
use Rattle.std.proofs.Common.{◌≡◌, ℕ, zero, suc, ◌<◌, ◌≤◌, Bool, true, false, nat_eq, nat_lt, List, [], ◌∷◌, ◌++◌, length, slice_get, insert, remove, set, get_or, refl, ◌∙◌, append-nil, arith}
use Rattle.desk_values.specs.declared.value.Value.{Value}
use Rattle.key_index.specs.declared.shelf.Group.{Group}
use Rattle.key_index.specs.Triples.{with_number, without_number}
use Rattle.key_index.specs.Inside.Shelves.{changed, dropped, is_number, is_of_key, noted, place, position_of}

pub place_within : (row : ℕ) (xs : List ℕ) → place row xs ≤ length xs
place_within row [] = omega arith
place_within row (x ∷ xs) = by (nat_lt x row) refl (place_within row xs)
  where
    by : (b : Bool) → nat_lt x row ≡ b → place row xs ≤ length xs → place row (x ∷ xs) ≤ length (x ∷ xs)
    by true e h = grind (arith, e, h)
    by false e h = grind (arith, e)

-- the number stands at its place
pub there : (row at : ℕ) (xs : List ℕ) → at ≡ place row xs → is_number row (slice_get xs at) ≡ true → (with_number row xs ≡ xs) × (without_number row xs ≡ remove xs at)
there row zero [] p g = absurd (grind (arith, g))
there row (suc at) [] p g = absurd (grind (arith, g))
there row at (x ∷ xs) p g = by (nat_lt x row) refl at p g (λ i. there row i xs)
  where
    by : (b : Bool) → nat_lt x row ≡ b → (at : ℕ) → at ≡ place row (x ∷ xs) → is_number row (slice_get (x ∷ xs) at) ≡ true
        → ((i : ℕ) → i ≡ place row xs → is_number row (slice_get xs i) ≡ true → (with_number row xs ≡ xs) × (without_number row xs ≡ remove xs i)) → (with_number row (x ∷ xs) ≡ x ∷ xs) × (without_number row (x ∷ xs) ≡ remove (x ∷ xs) at)
    by true e zero p g rest = absurd (grind (arith, e, p))
    by true e (suc i) p g rest = let r = rest i (grind (arith, e, p)) g in (grind (arith, e, r.0), grind (arith, e, r.1))
    by false e zero p g rest = let same : nat_eq x row ≡ true = g in (grind (arith, e, same), grind (arith, e, same))
    by false e (suc i) p g rest = absurd (grind (arith, e, p))

-- or another does
pub elsewhere : (row at : ℕ) (xs : List ℕ) → at ≡ place row xs → is_number row (slice_get xs at) ≡ false → (with_number row xs ≡ insert xs at row) × (without_number row xs ≡ xs)
elsewhere row zero [] p g = (refl, refl)
elsewhere row (suc at) [] p g = absurd (omega (arith, p))
elsewhere row at (x ∷ xs) p g = by (nat_lt x row) refl at p g (λ i. elsewhere row i xs)
  where
    by : (b : Bool) → nat_lt x row ≡ b → (at : ℕ) → at ≡ place row (x ∷ xs) → is_number row (slice_get (x ∷ xs) at) ≡ false
        → ((i : ℕ) → i ≡ place row xs → is_number row (slice_get xs i) ≡ false → (with_number row xs ≡ insert xs i row) × (without_number row xs ≡ xs)) → (with_number row (x ∷ xs) ≡ insert (x ∷ xs) at row) × (without_number row (x ∷ xs) ≡ x ∷ xs)
    by true e zero p g rest = absurd (grind (arith, e, p))
    by true e (suc i) p g rest = let r = rest i (grind (arith, e, p)) g in (grind (arith, e, r.0), grind (arith, e, r.1))
    by false e zero p g rest = let apart : nat_eq x row ≡ false = g in (grind (arith, e, apart), grind (arith, e, apart))
    by false e (suc i) p g rest = absurd (grind (arith, e, p))

-- the same of a number that goes
pub there_out : (row at : ℕ) (xs : List ℕ) → at ≡ place row xs → is_number row (slice_get xs at) ≡ true → without_number row xs ≡ remove xs at
there_out row at xs p g = (there row at xs p g).1

pub elsewhere_out : (row at : ℕ) (xs : List ℕ) → at ≡ place row xs → is_number row (slice_get xs at) ≡ false → without_number row xs ≡ xs
elsewhere_out row at xs p g = (elsewhere row at xs p g).1

-- ---- groups

module _ (level table : ℕ) (key : Value) (change : List ℕ → List ℕ) (more : List Group) where
  abbrev pub turned : List Group → List Group
  turned groups = changed level table key change more groups

  abbrev pub altered : Group → Group
  altered group = record group { rows = change group.rows }

  -- the group at the key's place is changed
  pub here : (at : ℕ) (xs : List Group) (d : Group) → at ≡ position_of level table key xs → at < length xs → turned xs ≡ set xs at (altered (get_or xs at d))
  here at [] d p l = absurd (omega (arith, l))
  here at (x ∷ xs) d p l = by (is_of_key level table key x) refl at p l (λ i. here i xs d)
    where
      by : (b : Bool) → is_of_key level table key x ≡ b → (at : ℕ) → at ≡ position_of level table key (x ∷ xs) → at < length (x ∷ xs)
          → ((i : ℕ) → i ≡ position_of level table key xs → i < length xs → turned xs ≡ set xs i (altered (get_or xs i d))) → turned (x ∷ xs) ≡ set (x ∷ xs) at (altered (get_or (x ∷ xs) at d))
      by true e zero p l rest = grind (arith, e)
      by true e (suc i) p l rest = absurd (grind (arith, e, p))
      by false e zero p l rest = absurd (grind (arith, e, p))
      by false e (suc i) p l rest = let r = rest i (grind (arith, e, p)) (omega (arith, l)) in grind (arith, e, r)

  -- or none is
  pub nowhere : (xs : List Group) → length xs ≤ position_of level table key xs → turned xs ≡ xs ++ more
  nowhere [] l = refl
  nowhere (x ∷ xs) l = by (is_of_key level table key x) refl (nowhere xs)
    where
      by : (b : Bool) → is_of_key level table key x ≡ b → (length xs ≤ position_of level table key xs → turned xs ≡ xs ++ more) → turned (x ∷ xs) ≡ x ∷ xs ++ more
      by true e rest = absurd (grind (arith, e, l))
      by false e rest = let r = rest (grind (arith, e, l)) in grind (arith, e, r)

module _ (level table : ℕ) (key : Value) (row : ℕ) where
  pub of_key : (at : ℕ) (xs : List Group) (d : Group) → at ≡ position_of level table key xs → at < length xs → noted level table key row xs ≡ set xs at (record (get_or xs at d) { rows = with_number row (get_or xs at d).rows })
  of_key = here level table key (with_number row) (record { table = table; key = key; rows = row ∷ [] } ∷ [])

  pub of_none : (xs : List Group) → length xs ≤ position_of level table key xs → noted level table key row xs ≡ xs ++ record { table = table; key = key; rows = row ∷ [] } ∷ []
  of_none = nowhere level table key (with_number row) (record { table = table; key = key; rows = row ∷ [] } ∷ [])

  pub of_key_out : (at : ℕ) (xs : List Group) (d : Group) → at ≡ position_of level table key xs → at < length xs → dropped level table key row xs ≡ set xs at (record (get_or xs at d) { rows = without_number row (get_or xs at d).rows })
  of_key_out = here level table key (without_number row) []

  pub of_none_out : (xs : List Group) → length xs ≤ position_of level table key xs → dropped level table key row xs ≡ xs
  of_none_out xs l = nowhere level table key (without_number row) [] xs l ∙ append-nil xs
