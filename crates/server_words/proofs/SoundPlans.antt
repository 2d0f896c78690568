-- What is known of a statement that was read and checked.
use Rattle.std.proofs.Common.{◌≡◌, ℕ, ◌+◌, ◌<◌, Bool, true, false, List, [], ◌∷◌, length, refl, subst, arith}
use Rattle.std.proofs.lemmas.Bool.{or_parts}
use Rattle.std.proofs.lemmas.List.{length-map}
use Rattle.std.specs.Prelude.{◌&&◌, nat_eq, if◌then◌else◌, is_none, Option, None, Some, Result, Ok, Err}
use Rattle.std.specs.Option.{option_and_then, option_map, unwrap_or}
use Rattle.desk_values.specs.declared.call.Call.{Call}
use Rattle.desk_values.specs.declared.call.Call.TheVariants.{Connect, Sql, Disconnect}
use Rattle.desk_values.specs.declared.value.Value.{Value}
use Rattle.desk_values.specs.declared.fault.Fault.{Fault}
use Rattle.desk_values.specs.declared.fault.Fault.TheVariants.{UnknownSequence, UnknownTable}
use Rattle.desk_schema.specs.declared.schema.Table.{Table}
use Rattle.desk_schema.specs.Schema.{SchemaView, place_where, table_names}
use Rattle.sql_tree.specs.Naming.{map_asked, map_term, map_total}
use Rattle.sql_tree.specs.Plain.{Asked, columns, values, totals, Name, Plan, select, next, insert}
use Rattle.sql_reader.specs.Reading.{statement_of}
use Rattle.sql_reader.specs.Asking.{Asks, AsksIfSelect}
use Rattle.sql_reader.proofs.Asking.{read_asks}
use Rattle.sql_eval.specs.Check.{applies, check_of, first_fault}
use Rattle.sql_eval.specs.Faults.{unless_told}
use Rattle.sql_eval.specs.SchemaNames.{is_unknown, number_of, numbered}
use Rattle.sql_eval.proofs.CheckLaws.{nothing_is_overlooked}
use Rattle.server_words.specs.Request.{Request, statement, checked, known_in, names_savepoint, read, request_of, statement_in, table_named}

-- ---- a checked statement names what there is

more_place : (place : Option ℕ) (count : ℕ) → (is_none place ≡ false → unwrap_or place 0 < count) → is_none (option_map (λ p. p + 1) place) ≡ false → unwrap_or (option_map (λ p. p + 1) place) 0 < count + 1
more_place None count within known = absurd cc
more_place (Some place) count within known = omega (arith, within refl)

place_within : (test : List ℕ → Bool) (names : List (List ℕ)) → is_none (place_where test names) ≡ false → unwrap_or (place_where test names) 0 < length names
place_within test [] = λ known. absurd cc
place_within test (name ∷ names) =
    elim (test name) as (λ b. is_none (if b then Some 0 else option_map (λ p. p + 1) (place_where test names)) ≡ false → unwrap_or (if b then Some 0 else option_map (λ p. p + 1) (place_where test names)) 0 < length (name ∷ names)) [
      | true ↦ λ known. omega arith
      | false ↦ λ known. let more = more_place (place_where test names) (length names) (place_within test names) known in omega arith
    ]

known_number : (names : List (List ℕ)) (name : List ℕ) → is_unknown names name ≡ false → number_of names name < length names
known_number names name known = place_within _ names known

-- what replies need of a statement with numbers
abbrev pub IsSoundPlan : SchemaView → Plan ℕ → Type 0
IsSoundPlan schema (select table asked condition keys for_update) = Asks asked
IsSoundPlan schema (next sequence) = sequence < length schema.sequences
IsSoundPlan schema (insert table named entries) = table < length schema.tables
IsSoundPlan schema other = Unit {0}

asked_numbers : (f : List ℕ → ℕ) (asked : Asked Name) → Asks asked → Asks (map_asked f asked)
asked_numbers f columns asks = tt
asked_numbers f (values es) asks = omega (arith, asks, length-map es (map_term f))
asked_numbers f (totals ts) asks = omega (arith, asks, length-map ts (map_total f))

module _ (schema : SchemaView) (binds : List Value) where
  numbers_sound : (plan : Plan Name) → AsksIfSelect plan → ((fault : Fault) → applies schema binds plan fault ≡ false) → IsSoundPlan schema (numbered schema plan)
  numbers_sound (select table asked condition keys for_update) asks none = asked_numbers _ asked asks
  numbers_sound (next sequence) asks none = known_number schema.sequences sequence (or_parts _ _ (none UnknownSequence)).0
  numbers_sound (insert table named entries) asks none = omega (arith, known_number (table_names schema.tables) table (none UnknownTable), length-map schema.tables (λ (t : Table). t.name))
  numbers_sound other asks none = tt

  pub told_ok : (fault : Option Fault) (plan found : Plan ℕ) → unless_told fault (Ok plan) ≡ Ok found → plan ≡ found
  told_ok (Some fault) plan found is = absurd cc
  told_ok None plan found is = cc

  checked_sound : (plan : Plan Name) (found : Plan ℕ) → AsksIfSelect plan → check_of schema binds plan ≡ Ok found → IsSoundPlan schema found
  checked_sound plan found asks is = subst (IsSoundPlan schema) (told_ok (first_fault schema binds plan) (numbered schema plan) found is) (numbers_sound plan asks (nothing_is_overlooked schema binds plan found is))

-- ---- requests

abbrev pub IsSoundRequest : SchemaView → Request → Type 0
IsSoundRequest schema (statement plan binds) = IsSoundPlan schema plan
IsSoundRequest schema other = Unit {0}

module _ (schema : SchemaView) (binds : List Value) where
  after_check : (table : Option ℕ) (found : Result (Plan ℕ) Fault) → ((plan : Plan ℕ) → found ≡ Ok plan → IsSoundPlan schema plan) → IsSoundRequest schema (checked table binds found)
  after_check table (Ok plan) sound = sound plan refl
  after_check table (Err fault) sound = tt

  after_read : (parsed : Option (Plan Name)) → ((plan : Plan Name) → parsed ≡ Some plan → AsksIfSelect plan) → IsSoundRequest schema (read schema binds parsed)
  after_read None asks = tt
  after_read (Some plan) asks = after_check (table_named schema plan) (check_of schema binds plan) (λ found is. checked_sound schema binds plan found (asks plan refl) is)

-- what the server knows of what was read was read
pub known_read : (version : ℕ) (found : Option (Plan Name)) (plan : Plan Name) → option_and_then (known_in version) found ≡ Some plan → found ≡ Some plan
known_read version None plan = λ same. same
known_read version (Some parsed) plan =
    elim (nat_eq version 1 && names_savepoint parsed) as (λ b. (if b then None else Some parsed) ≡ Some plan → Some parsed ≡ Some plan) [
      | true ↦ λ never. absurd cc
      | false ↦ λ same. same
    ]

pub sound_request : (schema : SchemaView) (call : Call) → IsSoundRequest schema (request_of schema call)
sound_request schema (Connect service) = tt
sound_request schema Disconnect = tt
sound_request schema (Sql text binds) = after_read schema binds (statement_in schema.version text) (λ plan is. read_asks text plan (known_read schema.version (statement_of text) plan is))
