-- The fields of a record of three.
use Rattle.std.proofs.Common.{◌≡◌, ℕ, ◌<◌, zero, suc, List, [], ◌∷◌, length, None, Some, arith}
use Rattle.csv.specs.Records.{field_at}
use Rattle.remap_ids.specs.Services.{three_of}

pub three_made : (fields : List (List ℕ)) (a b c : List ℕ) → length fields ≡ 3 → field_at fields 0 ≡ Some a → field_at fields 1 ≡ Some b → field_at fields 2 ≡ Some c → Some (a, b, c) ≡ three_of fields
unfolding field_at
three_made (x ∷ y ∷ z ∷ []) a b c n first second third = cc
three_made [] a b c n first second third = absurd (omega (arith, n))
three_made (x ∷ []) a b c n first second third = absurd (omega (arith, n))
three_made (x ∷ y ∷ []) a b c n first second third = absurd (omega (arith, n))
three_made (x ∷ y ∷ z ∷ w ∷ fs) a b c n first second third = absurd (omega (arith, n))

pub field_is_there : (fields : List (List ℕ)) (i : ℕ) → i < length fields → field_at fields i ≡ None → ⊥
unfolding field_at
field_is_there [] i within none = omega (arith, within)
field_is_there (f ∷ fs) zero within none = cc
field_is_there (f ∷ fs) (suc i) within none = field_is_there fs i (omega (arith, within)) none
