-- Lists that are handed out one by one, and the table of a call.
use Rattle.std.proofs.Common.{◌≡◌, ℕ, true, false, ◌&&◌, List, [], ◌∷◌, ◌++◌, Option, None, Some, Ok, refl, sym, subst, if◌then◌else◌}
use Rattle.std.specs.Prelude.{is_none, nat_eq, unwrap_or}
use Rattle.std.specs.List.{AllZip, find}
use Rattle.std.specs.Option.{option_and_then}
use Rattle.desk_values.specs.declared.value.Value.{Value}
use Rattle.desk_values.specs.declared.fault.Fault.{Fault}
use Rattle.desk_values.specs.declared.fault.Fault.TheVariants.{UnknownTable, UnknownColumn, UnknownSequence, BindMissing, Kinds}
use Rattle.desk_schema.specs.Schema.{SchemaView, place_ignoring_case, table_names}
use Rattle.sql_tree.specs.Plain.{Name, Plan, select, next, insert, update, delete, commit, rollback, set_read_only, savepoint, rollback_to}
use Rattle.sql_eval.specs.Check.{applies, first_fault}
use Rattle.sql_eval.specs.Faults.{unless_told}
use Rattle.sql_eval.specs.SchemaNames.{numbered, table_number, table_of}
use Rattle.sql_reader.specs.Reading.{statement_of}
use Rattle.server_words.specs.Request.{checked, known_in, names_savepoint, read, statement_in, table_in, table_named}

-- ---- place by place

pub zip_push : {A B : Type 0} (R : A → B → Type 0) (xs : List A) (ys : List B) (x : A) (y : B) → AllZip R xs ys → R x y → AllZip R (xs ++ x ∷ []) (ys ++ y ∷ [])
zip_push R [] [] x y zip one = (one, tt)
zip_push R [] (b ∷ ys) x y zip one = absurd zip
zip_push R (a ∷ xs) [] x y zip one = absurd zip
zip_push R (a ∷ xs) (b ∷ ys) x y zip one = (zip.0, zip_push R xs ys x y zip.1 one)

-- ---- the table of a text

module _ (schema : SchemaView) (binds : List Value) where
  -- the fault is told, or does not apply
  told_table : (parsed : Plan Name) → first_fault schema binds parsed ≡ None → applies schema binds parsed UnknownTable ≡ false
  unfolding first_fault
  told_table parsed none = elim (applies schema binds parsed UnknownTable) as (λ b. (if b then Some UnknownTable else find (applies schema binds parsed) (UnknownColumn ∷ UnknownSequence ∷ BindMissing ∷ Kinds ∷ [])) ≡ None → b ≡ false) [
    | true ↦ λ some. absurd cc
    | false ↦ λ none. refl
  ] none

  known_number : (name : Name) → is_none (place_ignoring_case (table_names schema.tables) name) ≡ false → Some (table_number schema.tables (Some name)) ≡ place_ignoring_case (table_names schema.tables) name
  known_number name known = elim (place_ignoring_case (table_names schema.tables) name) as (λ o. is_none o ≡ false → Some (unwrap_or o 0) ≡ o) [
    | None ↦ λ none. absurd cc
    | Some place ↦ λ some. refl
  ] known

  numbered_table : (parsed : Plan Name) → applies schema binds parsed UnknownTable ≡ false → table_of (numbered schema parsed) ≡ table_named schema parsed
  numbered_table (select table asked condition keys held) known = known_number table known
  numbered_table (next sequence) known = refl
  numbered_table (insert table named entries) known = known_number table known
  numbered_table (update table changes condition) known = known_number table known
  numbered_table (delete table condition) known = known_number table known
  numbered_table commit known = refl
  numbered_table rollback known = refl
  numbered_table set_read_only known = refl
  numbered_table (savepoint name) known = refl
  numbered_table (rollback_to name) known = refl

  pub checked_table : (parsed : Plan Name) → table_in (read schema binds (Some parsed)) ≡ table_named schema parsed
  checked_table parsed = elim (first_fault schema binds parsed) as (λ (f : Option Fault). first_fault schema binds parsed ≡ f → table_in (checked (table_named schema parsed) binds (unless_told f (Ok (numbered schema parsed)))) ≡ table_named schema parsed) [
    | None ↦ λ none. numbered_table parsed (told_table parsed none)
    | Some fault ↦ λ some. refl
  ] refl

  no_table : (parsed : Plan Name) → names_savepoint parsed ≡ true → None ≡ table_named schema parsed
  no_table (savepoint name) is = refl
  no_table (rollback_to name) is = refl
  no_table other is = absurd cc

  -- a server of each version finds the table that the statement names, where it has the statement; else there is none
  pub read_table : (version : ℕ) (parsed : Plan Name) → table_in (read schema binds (known_in version parsed)) ≡ table_named schema parsed
  read_table version parsed = elim (names_savepoint parsed) as (λ b. names_savepoint parsed ≡ b → table_in (read schema binds (if nat_eq version 1 && b then None else Some parsed)) ≡ table_named schema parsed) [
    | true ↦ λ is. elim (nat_eq version 1) as (λ c. table_in (read schema binds (if c && true then None else Some parsed)) ≡ table_named schema parsed) [ true ↦ no_table parsed is | false ↦ checked_table parsed ]
    | false ↦ λ isnt. elim (nat_eq version 1) as (λ c. table_in (read schema binds (if c && false then None else Some parsed)) ≡ table_named schema parsed) [ true ↦ checked_table parsed | false ↦ checked_table parsed ]
  ] refl

  pub text_table : (version : ℕ) (text : List ℕ) (parsed : Plan Name) → statement_of text ≡ Some parsed → table_in (read schema binds (statement_in version text)) ≡ table_named schema parsed
  text_table version text parsed is = subst (λ (o : Option (Plan Name)). table_in (read schema binds (option_and_then (known_in version) o)) ≡ table_named schema parsed) (sym is) (read_table version parsed)

  pub no_text : (version : ℕ) (text : List ℕ) → statement_of text ≡ None → table_in (read schema binds (statement_in version text)) ≡ None
  no_text version text is = subst (λ (o : Option (Plan Name)). table_in (read schema binds (option_and_then (known_in version) o)) ≡ None) (sym is) refl
