-- What a condition that asks for a key is of a row.
use Rattle.std.specs.Prelude.{◌≡◌, ℕ, true, List, Some, Ok}
use Rattle.desk_values.specs.declared.value.Value.{Value}
use Rattle.desk_values.specs.Comparison.{same_key}
use Rattle.desk_schema.specs.Rules.{key_of}
use Rattle.sql_tree.specs.Plain.{Term}
use Rattle.sql_eval.specs.declared.logic.Truth.{Truth}
use Rattle.sql_eval.specs.declared.logic.Truth.TheVariants.{True}
use Rattle.sql_eval.specs.Value.{truth_value}
use Rattle.key_conditions.specs.Sought.{key_sought}

-- it has no fault there, and is true only of a row of that key
pub record AsksFor (level row : ℕ) (values binds : List Value) (condition : Term ℕ) (key : Value) : Type 0 where
  pub truth : Truth
  pub is : truth_value level row values binds condition ≡ Ok truth
  pub only : truth ≡ True → same_key level (key_of values) key ≡ true

abbrev pub SoughtKeysMatch : Type 0
SoughtKeysMatch = (level row : ℕ) (values binds : List Value) (condition : Term ℕ) (key : Value)
    → key_sought level binds (Some condition) ≡ Some key → AsksFor level row values binds condition key
