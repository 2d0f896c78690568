-- What an answer takes of rows depends on which rows there are, and not on their order.
use Rattle.std.specs.Prelude.{◌≡◌, ℕ, List, length, Option, Result}
use Rattle.desk_values.specs.declared.value.Value.{Value}
use Rattle.desk_values.specs.declared.value.Image.{Image}
use Rattle.desk_values.specs.declared.fault.Fault.{Fault}
use Rattle.sql_tree.specs.declared.tree.Key.{Key}
use Rattle.sql_tree.specs.Plain.{Asked, Term}
use Rattle.sql_eval.specs.declared.faults.Faults.{Faults}
use Rattle.sql_eval.specs.Faults.{any_fault}
use Rattle.sql_eval.specs.Moved.{Moved}
use Rattle.server_words.specs.Found.{Environment, faults_over, matching, where_faults}
use Rattle.server_words.specs.Writes.{repeats_key}
use Rattle.server_words.specs.Answer.{select_rows}

-- whether some row has a fault: of a condition, of a part with a value or a truth, of several parts
abbrev pub WhereIgnoresOrder : Type 0
WhereIgnoresOrder = (env : Environment) (condition : Option (Term ℕ)) (rows others : List Image)
    → Moved rows others → where_faults env condition rows ≡ where_faults env condition others

abbrev pub FaultsIgnoreOrder : Type 0 → Type 0
FaultsIgnoreOrder A = (part : Image → Result A Fault) (rows others : List Image) → Moved rows others
    → any_fault part rows ≡ any_fault part others

abbrev pub RowFaultsIgnoreOrder : Type 0
RowFaultsIgnoreOrder = (faults : Image → Faults) (rows others : List Image) → Moved rows others
    → faults_over faults rows ≡ faults_over faults others

-- how many rows match
abbrev pub CountIgnoresOrder : Type 0
CountIgnoresOrder = (env : Environment) (condition : Option (Term ℕ)) (rows others : List Image)
    → Moved rows others → length (matching env condition rows) ≡ length (matching env condition others)

-- the rows of items or totals that are answered, but for their order
abbrev pub ItemsIgnoreOrder : Type 0
ItemsIgnoreOrder = (env : Environment) (asked : Asked ℕ) (keys : List (Key ℕ)) (found others : List Image)
    → Moved found others → Moved (select_rows env asked keys found) (select_rows env asked keys others)

-- whether two rows have one key
abbrev pub KeysIgnoreOrder : Type 0
KeysIgnoreOrder = (level : ℕ) (keys others : List Value) → Moved keys others → repeats_key level keys ≡ repeats_key level others
