-- What a text asks for that was read and checked.
use Rattle.std.proofs.Common.{◌≡◌, ℕ, Bool, true, false, ◌&&◌, if◌then◌else◌, List, Option, None, Some, refl, sym, ap, ◌∙◌}
use Rattle.std.specs.Prelude.{nat_eq, Ok, Err}
use Rattle.std.specs.Option.{option_and_then, option_map}
use Rattle.std.proofs.Math.Bool.{and-false}
use Rattle.desk_values.specs.declared.value.Value.{Value}
use Rattle.desk_values.specs.declared.fault.Fault.{Fault}
use Rattle.desk_schema.specs.Schema.{SchemaView}
use Rattle.sql_tree.specs.Plain.{Name, Plan, savepoint, rollback_to}
use Rattle.sql_eval.specs.Check.{check_of, first_fault}
use Rattle.sql_eval.specs.SchemaNames.{numbered}
use Rattle.server_words.specs.Request.{Request, checked, known_in, names_savepoint, read, statement, table_named, unreadable, unsound}
use Rattle.machine_model.specs.Inside.Machine.{known_request}
use Rattle.server_words.proofs.SoundPlans.{told_ok}
use Rattle.server_words.proofs.Versions.{names_mapped}

some_is : {X : Type 0} (a b : X) → Some a ≡ Some b → a ≡ b
some_is a b same = cc

module _ (schema : SchemaView) (binds : List Value) where
  -- the checks refuse no statement on savepoints
  savepoints_pass : (parsed : Plan Name) (fault : Fault) → check_of schema binds parsed ≡ Err fault → names_savepoint parsed ≡ false
  unfolding first_fault
  savepoints_pass (savepoint name) fault told = absurd (cc)
  savepoints_pass (rollback_to name) fault told = absurd (cc)
  savepoints_pass other fault told = refl

  module _ (version : ℕ) where
    abbrev asked : Option (Plan Name) → Request
    asked found = read schema binds (option_and_then (known_in version) found)

    names_same : (parsed : Plan Name) (plan : Plan ℕ) → check_of schema binds parsed ≡ Ok plan → names_savepoint plan ≡ names_savepoint parsed
    names_same parsed plan told = ap names_savepoint (sym (told_ok schema binds (first_fault schema binds parsed) (numbered schema parsed) plan told)) ∙ names_mapped _ parsed

    pub checked_asks : (found : Option (Plan Name)) (plan : Plan ℕ) → option_map (check_of schema binds) found ≡ Some (Ok plan) → asked found ≡ known_request version plan binds
    checked_asks None plan told = absurd (cc)
    checked_asks (Some parsed) plan told =
        let passes : check_of schema binds parsed ≡ Ok plan = some_is _ _ told in
        elim (nat_eq version 1 && names_savepoint parsed) as (λ b. nat_eq version 1 && names_savepoint parsed ≡ b → read schema binds (if b then None else Some parsed) ≡ known_request version plan binds) [
          | true ↦ λ savepoints. sym (ap (λ (n : Bool). if nat_eq version 1 && n then unreadable else statement plan binds) (names_same parsed plan passes) ∙ ap (λ (b : Bool). if b then unreadable else statement plan binds) savepoints)
          | false ↦ λ other. ap (checked (table_named schema parsed) binds) passes
              ∙ sym (ap (λ (n : Bool). if nat_eq version 1 && n then unreadable else statement plan binds) (names_same parsed plan passes) ∙ ap (λ (b : Bool). if b then unreadable else statement plan binds) other)
        ] refl

    pub refused_asks : (found : Option (Plan Name)) (fault : Fault) → option_map (check_of schema binds) found ≡ Some (Err fault) → (table : Option ℕ) × (asked found ≡ unsound table fault)
    refused_asks None fault told = absurd (cc)
    refused_asks (Some parsed) fault told =
        let fails : check_of schema binds parsed ≡ Err fault = some_is _ _ told in
        let other : (nat_eq version 1 && names_savepoint parsed) ≡ false = ap (λ (n : Bool). nat_eq version 1 && n) (savepoints_pass parsed fault fails) ∙ and-false (nat_eq version 1) in
        (table_named schema parsed, ap (λ (b : Bool). read schema binds (if b then None else Some parsed)) other ∙ ap (checked (table_named schema parsed) binds) fails)

    pub unreadable_asks : (found : Option (Plan Name)) → option_map (check_of schema binds) found ≡ None → asked found ≡ unreadable
    unreadable_asks None told = refl
    unreadable_asks (Some parsed) told = absurd (cc)
