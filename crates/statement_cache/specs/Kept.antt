-- What a text of SQL is to a server, once it is read and checked, and what is kept of texts.
use Rattle.std.specs.Prelude.{◌≡◌, ℕ, nat_eq, List, Option, None, Some, Result, Ok, Err}
use Rattle.std.specs.Option.{option_map}
use Rattle.std.specs.Map.{lookup}
use Rattle.desk_values.specs.declared.value.Value.{Value}
use Rattle.desk_values.specs.declared.fault.Fault.{Fault}
use Rattle.desk_schema.specs.Schema.{SchemaView}
use Rattle.sql_tree.specs.Plain.{Plan, plan_of}
use Rattle.sql_reader.specs.Reading.{statement_of}
use Rattle.sql_eval.specs.Check.{check_of}
use Rattle.statement_cache.specs.declared.kept.Kept.{Kept}
use Rattle.statement_cache.specs.declared.kept.Kept.TheVariants.{Checked, Refused, Unreadable}
use Rattle.statement_cache.specs.declared.statements.Known.{Known}
use Rattle.statement_cache.specs.Kinds.{kinds_of}

-- nothing where it is no statement, else its checked form or the first fault
abbrev pub outcome_of_text : SchemaView → List ℕ → List Value → Option (Result (Plan ℕ) Fault)
outcome_of_text schema text binds = option_map (check_of schema binds) (statement_of text)

-- the same as it is kept
abbrev pub outcome_of : Kept → Option (Result (Plan ℕ) Fault)
outcome_of (Checked ready) = Some (Ok (plan_of ready))
outcome_of (Refused fault) = Some (Err fault)
outcome_of Unreadable = None

-- what is known of a text is right for all binds of its kinds
abbrev pub IsRight : SchemaView → Known → Type 0
IsRight schema known = (binds : List Value) → kinds_of binds ≡ known.kinds.items → outcome_of_text schema known.text binds ≡ outcome_of known.kept

-- texts by their prints
abbrev pub Texts : Type 0
Texts = List (ℕ × Known)

-- and so of all that stand there
abbrev pub AreRight : SchemaView → Texts → Type 0
AreRight schema texts = (print : ℕ) (known : Known) → lookup (nat_eq print) texts ≡ Some known → IsRight schema known
