-- The tables that a statement speaks of, by its checked form.
use Rattle.std.proofs.Common.{◌≡◌, ◌∙◌, ℕ, ◌<◌, ◌≤◌, List, length, Option, None, Some, refl, sym, ap, subst, arith}
use Rattle.std.specs.Prelude.{IfSome, Ok}
use Rattle.std.specs.Option.{option_and_then, option_map}
use Rattle.std.specs.Str.{str_eq_ignore_ascii_case}
use Rattle.std.proofs.lemmas.List.{length-map}
use Rattle.desk_values.specs.declared.value.Value.{Value}
use Rattle.desk_schema.specs.declared.schema.Table.{Table}
use Rattle.desk_schema.specs.Schema.{SchemaView, place_ignoring_case, table_names}
use Rattle.sql_tree.specs.Plain.{Name, Plan, set_read_only}
use Rattle.sql_eval.specs.Check.{check_of, first_fault}
use Rattle.sql_eval.specs.SchemaNames.{numbered, table_of}
use Rattle.server_words.specs.Request.{checked, table_in, table_named}
use Rattle.server_words.proofs.Handing.{checked_table}
use Rattle.server_words.proofs.SoundPlans.{told_ok}
use Rattle.captured_calls.specs.Facts.{only_table, refs_of_statement}
use Rattle.prepare_plan.specs.Inside.{refs_of_plan}
use Rattle.prepare_plan.proofs.Places.{place_within}

some_is : {X : Type 0} (a b : X) → Some a ≡ Some b → a ≡ b
some_is a b same = cc

module _ (schema : SchemaView) (binds : List Value) where
  same_refs : (parsed : Plan Name) → table_of (numbered schema parsed) ≡ table_named schema parsed → refs_of_statement schema (Some parsed) ≡ refs_of_plan (numbered schema parsed)
  same_refs set_read_only same = refl
  same_refs other same = ap only_table (sym same)

  same_table : (parsed : Plan Name) (plan : Plan ℕ) → check_of schema binds parsed ≡ Ok plan → table_of plan ≡ table_named schema parsed
  same_table parsed plan passes = sym (ap (λ found. table_in (checked (table_named schema parsed) binds found)) passes) ∙ checked_table schema binds parsed

  pub told_refs : (found : Option (Plan Name)) (plan : Plan ℕ) → option_map (check_of schema binds) found ≡ Some (Ok plan) → refs_of_plan plan ≡ refs_of_statement schema found
  told_refs None plan told = absurd (cc)
  told_refs (Some parsed) plan told =
      let passes : check_of schema binds parsed ≡ Ok plan = some_is _ _ told in
      let is : numbered schema parsed ≡ plan = told_ok schema binds (first_fault schema binds parsed) (numbered schema parsed) plan passes in
      sym (same_refs parsed (ap table_of is ∙ same_table parsed plan passes) ∙ ap refs_of_plan is)

  named_within : (table : Option Name) → length schema.tables ≤ 32 → IfSome (option_and_then (place_ignoring_case (table_names schema.tables)) table) (λ place. place < 32)
  named_within None few = tt
  named_within (Some name) few = less (place_ignoring_case (table_names schema.tables) name) (place_within (λ other. str_eq_ignore_ascii_case other name) (table_names schema.tables))
    where
      less : (o : Option ℕ) → IfSome o (λ place. place < length (table_names schema.tables)) → IfSome o (λ place. place < 32)
      less None within = tt
      less (Some place) within = omega (arith, within, few, length-map schema.tables (λ (table : Table). table.name))

  pub told_within : (found : Option (Plan Name)) (plan : Plan ℕ) → length schema.tables ≤ 32 → option_map (check_of schema binds) found ≡ Some (Ok plan) → IfSome (table_of plan) (λ place. place < 32)
  told_within None plan few told = absurd (cc)
  told_within (Some parsed) plan few told = subst (λ (o : Option ℕ). IfSome o (λ place. place < 32)) (sym (same_table parsed plan (some_is _ _ told))) (named_within (table_of parsed) few)

  pub told_none : (found : Option (Plan Name)) → option_map (check_of schema binds) found ≡ None → 0 ≡ refs_of_statement schema found
  told_none None told = refl
  told_none (Some parsed) told = absurd (cc)
