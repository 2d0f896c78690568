-- Inputs that are more or fewer than the columns are refused.
use Rattle.std.proofs.Common.{ℕ, ◌≡◌, ◌<◌, List, [], ◌∷◌, length, refl, arith}
use Rattle.std.specs.Prelude.{false, map, Option}
use Rattle.desk_values.specs.declared.value.Value.{Value}
use Rattle.desk_schema.specs.declared.schema.Column.{Column}
use Rattle.sql_eval.specs.declared.part_kind.PartKind.{PartKind}
use Rattle.sql_tree.specs.Plain.{Entry}
use Rattle.sql_eval.specs.Kinds.{are_inputs}

pub too_many_inputs : {X Y : Type 0} (columns : List Column) (binds : List Value) (target : X → Option PartKind) (entry : Y → Entry ℕ) (xs : List X) (ys : List Y) → length xs ≡ 0 → 0 < length ys → are_inputs columns binds (map target xs) (map entry ys) ≡ false
too_many_inputs columns binds target entry [] [] h l = absurd (omega (arith, l))
too_many_inputs columns binds target entry [] (y ∷ ys) h l = refl
too_many_inputs columns binds target entry (x ∷ xs) ys h l = absurd (omega (arith, h))

pub too_few_inputs : {X Y : Type 0} (columns : List Column) (binds : List Value) (target : X → Option PartKind) (entry : Y → Entry ℕ) (xs : List X) (ys : List Y) → 0 < length xs → length ys ≡ 0 → are_inputs columns binds (map target xs) (map entry ys) ≡ false
too_few_inputs columns binds target entry [] ys l h = absurd (omega (arith, l))
too_few_inputs columns binds target entry (x ∷ xs) [] l h = refl
too_few_inputs columns binds target entry (x ∷ xs) (y ∷ ys) l h = absurd (omega (arith, h))
