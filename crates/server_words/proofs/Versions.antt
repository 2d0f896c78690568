-- A server of version 1 tells of no savepoint that is not there.
use Rattle.std.proofs.Common.{◌≡◌, ◌∙◌, ℕ, Bool, true, false, List, [], refl, sym, ap, subst}
use Rattle.std.specs.Prelude.{◌&&◌, ◌||◌, if◌then◌else◌, is_none, is_some, nat_eq, Option, None, Some, Result, Ok, Err}
use Rattle.std.specs.Option.{option_and_then}
use Rattle.std.proofs.lemmas.Bool.{false≢true}
use Rattle.std.proofs.lemmas.Option.{same_Some}
use Rattle.desk_values.specs.declared.value.Value.{Value}
use Rattle.desk_values.specs.declared.call.Call.{Call}
use Rattle.desk_values.specs.declared.call.Call.TheVariants.{Connect, Sql, Disconnect}
use Rattle.desk_values.specs.declared.call.Outcome.TheVariants.{Refused}
use Rattle.desk_values.specs.declared.fault.Fault.{Fault}
use Rattle.desk_values.specs.declared.fault.Fault.TheVariants.{Locked, DuplicateKey, NoSavepoint, NullValue, OutOfRange, TextTooLong, ZeroDivisor, Overflow, ReadOnly, NotConnected, AlreadyConnected, UnderWay, UnknownService, TooManyRows}
use Rattle.desk_values.specs.Good.{MayTell, misses_savepoint}
use Rattle.desk_schema.specs.declared.schema.Rights.{Rights}
use Rattle.desk_schema.specs.Schema.{SchemaView, rights_of}
use Rattle.sql_tree.specs.Naming.{Naming, map_plan}
use Rattle.sql_tree.specs.Plain.{Name, Plan, select, next, insert, update, delete, commit, rollback, set_read_only, savepoint, rollback_to}
use Rattle.sql_reader.specs.Reading.{statement_of}
use Rattle.sql_eval.specs.Check.{applies, check_of, first_fault}
use Rattle.sql_eval.specs.SchemaNames.{numbered}
use Rattle.sql_eval.proofs.CheckLaws.{lowest_rank_is_told}
use Rattle.server_words.specs.declared.causes.Causes.{Causes}
use Rattle.server_words.specs.Answer.{Answer, answer, executed, unless}
use Rattle.server_words.specs.Causes.{connect_fault, disconnect_fault, is_read_only, is_under_way, lacks_savepoint, needs_write_access, ranked, sets_read_only, statement_fault}
use Rattle.server_words.specs.Found.{Environment}
use Rattle.server_words.specs.Request.{checked, known_in, names_savepoint, read, request_of, statement_in, table_named}
use Rattle.server_words.specs.State.{State}
use Rattle.server_words.specs.Step.{reply_in, view_for}
use Rattle.server_words.specs.View.{View}
use Rattle.server_words.proofs.SoundPlans.{told_ok}

-- the fault is that of a savepoint
abbrev misses : Option Fault → Bool
misses None = false
misses (Some fault) = misses_savepoint (Refused fault)

abbrev IsQuiet : Answer → Type 0
IsQuiet a = misses_savepoint a.reply.outcome ≡ false

quiet_or : (b : Bool) (fault : Fault) (rest : Option Fault) → misses_savepoint (Refused fault) ≡ false → misses rest ≡ false → misses (if b then Some fault else rest) ≡ false
quiet_or true fault rest here later = here
quiet_or false fault rest here later = later

ranked_quiet : (causes : Causes) → misses (ranked causes) ≡ false
unfolding ranked
ranked_quiet causes =
    quiet_or causes.divides ZeroDivisor _ refl (quiet_or causes.overflows Overflow _ refl (quiet_or causes.too_many TooManyRows _ refl (quiet_or causes.locked Locked _ refl
    (quiet_or causes.null NullValue _ refl (quiet_or causes.too_long TextTooLong _ refl (quiet_or causes.out_of_range OutOfRange _ refl (quiet_or causes.duplicate DuplicateKey _ refl refl)))))))

lacks_quiet : (view : View) (plan : Plan ℕ) → names_savepoint plan ≡ false → misses (if lacks_savepoint view plan then Some NoSavepoint else None) ≡ false
lacks_quiet view (rollback_to name) is = absurd (false≢true (sym is))
lacks_quiet view other is = refl

statement_quiet : (view : View) (plan : Plan ℕ) → names_savepoint plan ≡ false → misses (statement_fault view plan) ≡ false
unfolding statement_fault
statement_quiet view plan is =
    quiet_or (is_none view.rights) NotConnected _ refl (quiet_or (needs_write_access plan && (is_read_only view.rights || view.reads_only)) ReadOnly _ refl
    (quiet_or (sets_read_only plan && is_under_way view) UnderWay _ refl (lacks_quiet view plan is)))

unless_quiet : (view : View) (draws : List Value) (fault : Option Fault) (a : Answer) → misses fault ≡ false → IsQuiet a → IsQuiet (unless view draws fault a)
unless_quiet view draws None a quiet is = is
unless_quiet view draws (Some fault) a quiet is = quiet

pub names_mapped : {A B : Type 0} (by : Naming A B) (plan : Plan A) → names_savepoint (map_plan by plan) ≡ names_savepoint plan
names_mapped by (select table asked condition keys held) = refl
names_mapped by (next sequence) = refl
names_mapped by (insert table named entries) = refl
names_mapped by (update table changes condition) = refl
names_mapped by (delete table condition) = refl
names_mapped by commit = refl
names_mapped by rollback = refl
names_mapped by set_read_only = refl
names_mapped by (savepoint name) = refl
names_mapped by (rollback_to name) = refl

applies_quiet : (schema : SchemaView) (binds : List Value) (parsed : Plan Name) (fault : Fault) → applies schema binds parsed fault ≡ true → misses_savepoint (Refused fault) ≡ false
applies_quiet schema binds parsed NoSavepoint is = absurd (false≢true is)
applies_quiet schema binds parsed other is = refl

module _ (schema : SchemaView) (view : View) (next_values : List ℕ) (row : ℕ) where
  executed_quiet : (env : Environment) (plan : Plan ℕ) → IsQuiet (executed schema view next_values row env plan)
  executed_quiet env (select table asked condition keys for_update) = unless_quiet view _ _ _ (ranked_quiet _) refl
  executed_quiet env (next sequence) = refl
  executed_quiet env (insert table named entries) = unless_quiet view _ _ _ (ranked_quiet _) refl
  executed_quiet env (update table changes condition) = unless_quiet view _ _ _ (ranked_quiet _) refl
  executed_quiet env (delete table condition) = unless_quiet view _ _ _ (ranked_quiet _) refl
  executed_quiet env commit = refl
  executed_quiet env rollback = refl
  executed_quiet env set_read_only = refl
  executed_quiet env (savepoint name) = refl
  executed_quiet env (rollback_to name) = refl

  checked_quiet : (binds : List Value) (table : Option ℕ) (found : Result (Plan ℕ) Fault) → ((plan : Plan ℕ) → found ≡ Ok plan → names_savepoint plan ≡ false)
      → ((fault : Fault) → found ≡ Err fault → misses_savepoint (Refused fault) ≡ false) → IsQuiet (answer schema view next_values row (checked table binds found))
  checked_quiet binds table (Ok plan) passed refused = unless_quiet view [] (statement_fault view plan) _ (statement_quiet view plan (passed plan refl)) (executed_quiet _ plan)
  checked_quiet binds table (Err fault) passed refused = elim (is_none view.rights) as (λ b. misses_savepoint (Refused (if b then NotConnected else fault)) ≡ false) [
    | true ↦ refl
    | false ↦ refused fault refl
  ]

  read_quiet : (binds : List Value) (found : Option (Plan Name)) → ((parsed : Plan Name) → found ≡ Some parsed → names_savepoint parsed ≡ false) → IsQuiet (answer schema view next_values row (read schema binds found))
  read_quiet binds None known = refl
  read_quiet binds (Some parsed) known = checked_quiet binds (table_named schema parsed) (check_of schema binds parsed)
      (λ plan is. ap names_savepoint (sym (told_ok schema binds (first_fault schema binds parsed) (numbered schema parsed) plan is)) ∙ names_mapped _ parsed ∙ known parsed refl)
      (λ fault is. applies_quiet schema binds parsed fault (lowest_rank_is_told schema binds parsed fault is).0)

  service_quiet : (service : Option Rights) → misses (connect_fault view service) ≡ false
  service_quiet service = quiet_or (is_some view.rights) AlreadyConnected _ refl (quiet_or (is_none service) UnknownService _ refl refl)

  disconnect_quiet : misses (disconnect_fault view) ≡ false
  disconnect_quiet = quiet_or (is_none view.rights) NotConnected _ refl refl

known_quiet : (found : Option (Plan Name)) (parsed : Plan Name) → option_and_then (known_in 1) found ≡ Some parsed → names_savepoint parsed ≡ false
known_quiet None parsed = λ never. absurd cc
known_quiet (Some plan) parsed =
    elim (names_savepoint plan) as (λ b. names_savepoint plan ≡ b → (if nat_eq 1 1 && b then None else Some plan) ≡ Some parsed → names_savepoint parsed ≡ false) [
      | true ↦ λ is never. absurd cc
      | false ↦ λ is same. ap names_savepoint (sym (same_Some plan parsed same)) ∙ is
    ] refl

answer_quiet : (schema : SchemaView) (view : View) (next_values : List ℕ) (row : ℕ) (call : Call) → schema.version ≡ 1 → IsQuiet (answer schema view next_values row (request_of schema call))
answer_quiet schema view next_values row (Connect service) old = unless_quiet view [] (connect_fault view (rights_of schema.services service)) _ (service_quiet schema view next_values row (rights_of schema.services service)) refl
answer_quiet schema view next_values row Disconnect old = unless_quiet view [] (disconnect_fault view) _ (disconnect_quiet schema view next_values row) refl
answer_quiet schema view next_values row (Sql text binds) old =
    read_quiet schema view next_values row binds (statement_in schema.version text) (λ parsed is. known_quiet (statement_of text) parsed (subst (λ (v : ℕ). option_and_then (known_in v) (statement_of text) ≡ Some parsed) old is))

pub old_servers : (state : State) (session : ℕ) (call : Call) → MayTell state.start.schema.version (reply_in state session call)
old_servers state session call = λ old. answer_quiet state.start.schema (view_for state session (request_of state.start.schema call)) state.next_values state.next_row call old
