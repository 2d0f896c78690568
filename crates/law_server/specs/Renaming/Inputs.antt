-- The inputs of an INSERT: there is no row yet that they could name.
use Rattle.std.specs.Prelude.{◌≡◌, ℕ, false, List, Ok}
use Rattle.std.specs.List.{AllByRecursion}
use Rattle.desk_values.specs.declared.value.Value.{Value}
use Rattle.desk_schema.specs.Schema.{SchemaView}
use Rattle.sql_tree.specs.Plain.{Entry, Name, Plan, value, drawn, insert}
use Rattle.sql_eval.specs.Check.{check_of}
use Rattle.law_server.specs.Rows.Laws.{names_row}

abbrev pub IsInput : Entry ℕ → Type 0
IsInput (value e) = names_row e ≡ false
IsInput (drawn sequence) = Unit {0}

abbrev pub HasInputs : Plan ℕ → Type 0
HasInputs (insert table named entries) = AllByRecursion IsInput entries
HasInputs plan = Unit {0}

-- ROWID stands in no input of a checked INSERT
abbrev pub InputsNameNoRow : Type 0
InputsNameNoRow = (schema : SchemaView) (binds : List Value) (parsed : Plan Name) (plan : Plan ℕ)
    → check_of schema binds parsed ≡ Ok plan → HasInputs plan
