-- What a call draws, by the fault that it is refused for.
use Rattle.std.proofs.Common.{◌≡◌, ◌≤◌, ◌<◌, ℕ, ◌+◌, Bool, true, false, if◌then◌else◌, List, [], ◌∷◌, Option, None, Some, refl, sym, ap, ◌∙◌, subst, arith}
use Rattle.std.specs.Prelude.{IfSome, Result, Ok, Err, is_none, nat_lt}
use Rattle.std.specs.Option.{option_map, unwrap_or}
use Rattle.desk_values.specs.declared.value.Value.{Value}
use Rattle.desk_values.specs.declared.value.Value.TheVariants.{Draw}
use Rattle.desk_values.specs.declared.call.Call.{Call}
use Rattle.desk_values.specs.declared.call.Call.TheVariants.{Connect, Sql, Disconnect}
use Rattle.desk_values.specs.declared.fault.Fault.{Fault}
use Rattle.desk_values.specs.declared.fault.Fault.TheVariants.{AlreadyConnected, NotConnected, UnknownService}
use Rattle.desk_values.specs.Fault.{fault_rank}
use Rattle.desk_schema.specs.declared.schema.Rights.{Rights}
use Rattle.desk_schema.specs.Schema.{SchemaView, columns_of, rights_of}
use Rattle.sql_tree.specs.Plain.{Name, Plan, select, next, insert, update, delete, commit, rollback, set_read_only, savepoint, rollback_to}
use Rattle.sql_eval.specs.Check.{check_of, first_fault}
use Rattle.sql_eval.specs.SchemaNames.{numbered}
use Rattle.sql_eval.proofs.CheckLaws.{lowest_rank_is_told}
use Rattle.server_words.specs.declared.causes.Causes.{Causes}
use Rattle.server_words.specs.declared.effect.Effect.{Effect}
use Rattle.server_words.specs.Causes.{connect_fault, disconnect_fault, ranked, statement_fault}
use Rattle.server_words.specs.Found.{Environment}
use Rattle.server_words.specs.Draws.{draws_from, draws_of, drawn_from}
use Rattle.server_words.specs.View.{View}
use Rattle.server_words.specs.Request.{Request, checked, connect, disconnect, read, request_of, statement, statement_in, table_named}
use Rattle.server_words.specs.Answer.{Answer, answer, delete_causes, delete_effect, done, executed, insert_causes, insert_effect, new_row, refused, ruled, select_causes, select_effect, unless, update_causes, update_effect}
use Rattle.law_server.specs.Ranks.{Brings, Forbids, Refuses}
use Rattle.law_server.specs.Applies.{DrawsByRank, drawn_by, fault_told, is_told_early}
use Rattle.law_server.proofs.Ranks.{causes_first, connections_first, first_applies, statements_first}
use Rattle.law_server.proofs.Stages.{if_some_map}
use Rattle.law_server.proofs.Calls.{brings_high, forbids_low, found_low, ok_is}

refuses_low : (view : View) (service : Option Rights) (fault : Fault) → Refuses view service fault → fault_rank fault ≤ 11
refuses_low view service AlreadyConnected is = omega arith
refuses_low view service UnknownService is = omega arith
refuses_low view service other is = absurd is

is_early : (rank : ℕ) → rank ≤ 11 → nat_lt rank 12 ≡ true
is_early rank low = grind arith

is_late : (rank : ℕ) → 11 < rank → nat_lt rank 12 ≡ false
is_late rank high = grind arith

draws_none : (draws : ℕ → Bool) → ((sequence : ℕ) → draws sequence ≡ false) → (sequence : ℕ) (ns : List ℕ) → drawn_from draws sequence ns ≡ []
draws_none draws none sequence [] = refl
draws_none draws none sequence (n ∷ ns) =
    ap (λ (b : Bool). if b then Draw sequence n ∷ drawn_from draws (sequence + 1) ns else drawn_from draws (sequence + 1) ns) (none sequence)
    ∙ draws_none draws none (sequence + 1) ns

-- the answer draws these values, or none where it is refused early
abbrev Drew : List Value → Answer → Type 0
Drew draws a = a.reply.draws ≡ (if is_told_early (fault_told a.reply.outcome) then [] else draws)

module _ (schema : SchemaView) (view : View) (next_values : List ℕ) (row : ℕ) where
  drew_early : (draws : List Value) (said : Option Fault) (a : Answer) → IfSome said (λ fault. fault_rank fault ≤ 11) → Drew draws a → Drew draws (unless view [] said a)
  drew_early draws None a low drew = drew
  drew_early draws (Some fault) a low drew = sym (ap (λ (b : Bool). if b then [] else draws) (is_early (fault_rank fault) low))

  drew_late : (draws : List Value) (said : Option Fault) (a : Answer) → IfSome said (λ fault. 11 < fault_rank fault) → Drew draws a → Drew draws (unless view draws said a)
  drew_late draws None a high drew = drew
  drew_late draws (Some fault) a high drew = sym (ap (λ (b : Bool). if b then [] else draws) (is_late (fault_rank fault) high))

  drew_ruled : (table : ℕ) (draws : List Value) (causes : Causes) (effect : Effect) → fault_told effect.outcome ≡ None → Drew draws (ruled table view draws causes effect)
  drew_ruled table draws causes effect is =
      drew_late draws (ranked causes) (done table view draws effect) (if_some_map (Brings causes) (λ fault. 11 < fault_rank fault) (ranked causes) (brings_high causes) (causes_first causes).applies)
      (sym (ap (λ (said : Option Fault). if is_told_early said then [] else draws) is))

  -- of a statement that draws nothing
  drew_nothing : (plan : Plan ℕ) (a : Answer) → ((sequence : ℕ) → draws_from plan sequence ≡ false) → Drew [] a → Drew (draws_of plan next_values) a
  drew_nothing plan a none drew = subst (λ (draws : List Value). Drew draws a) (sym (draws_none (draws_from plan) none 0 next_values)) drew

  drew_executed : (env : Environment) (plan : Plan ℕ) → Drew (draws_of plan next_values) (executed schema view next_values row env plan)
  drew_executed env (select table asked condition keys for_update) =
      drew_nothing (select table asked condition keys for_update) (executed schema view next_values row env (select table asked condition keys for_update)) (λ sequence. refl)
      (drew_ruled table [] (select_causes env view asked condition for_update) (select_effect env view asked condition keys for_update) refl)
  drew_executed env (insert table named entries) =
      let cs = columns_of schema.tables table in
      let draws = draws_of (insert table named entries) next_values in
      let new = new_row env cs draws row table named entries in
      drew_ruled table draws (insert_causes env cs view draws new entries) (insert_effect new) refl
  drew_executed env (update table changes condition) =
      drew_nothing (update table changes condition) (executed schema view next_values row env (update table changes condition)) (λ sequence. refl)
      (drew_ruled table [] (update_causes env (columns_of schema.tables table) view changes condition) (update_effect env view changes condition) refl)
  drew_executed env (delete table condition) =
      drew_nothing (delete table condition) (executed schema view next_values row env (delete table condition)) (λ sequence. refl)
      (drew_ruled table [] (delete_causes env view condition) (delete_effect env view condition) refl)
  drew_executed env (next sequence) = refl
  drew_executed env commit = drew_nothing commit (executed schema view next_values row env commit) (λ sequence. refl) refl
  drew_executed env rollback = drew_nothing rollback (executed schema view next_values row env rollback) (λ sequence. refl) refl
  drew_executed env set_read_only = drew_nothing set_read_only (executed schema view next_values row env set_read_only) (λ sequence. refl) refl
  drew_executed env (savepoint name) = drew_nothing (savepoint name) (executed schema view next_values row env (savepoint name)) (λ sequence. refl) refl
  drew_executed env (rollback_to name) = drew_nothing (rollback_to name) (executed schema view next_values row env (rollback_to name)) (λ sequence. refl) refl

  abbrev DrewTo : Call → Request → Type 0
  DrewTo call request = Drew (drawn_by schema next_values call) (answer schema view next_values row request)

  connects : (service : List ℕ) → DrewTo (Connect service) (connect (rights_of schema.services service))
  connects service =
      let rights = rights_of schema.services service in
      drew_early [] (connect_fault view rights) _ (if_some_map (Refuses view rights) (λ fault. fault_rank fault ≤ 11) (connect_fault view rights) (refuses_low view rights) (connections_first view rights).applies) refl

  ends : DrewTo Disconnect disconnect
  ends = drew_early [] (disconnect_fault view) _ (first_applies (is_none view.rights) NotConnected None (λ fault. fault_rank fault ≤ 11) (λ is. omega arith) tt) refl

  module _ (text : List ℕ) (binds : List Value) (parsed : Plan Name) (reads : statement_in schema.version text ≡ Some parsed) where
    abbrev drawn_here : Option (Plan Name) → List Value
    drawn_here found = unwrap_or (option_map (λ (parsed : Plan Name). draws_of (numbered schema parsed) next_values) found) []

    by_rights : (fault : Fault) → fault_rank fault ≤ 11 → (unconnected : Bool) → Drew (drawn_by schema next_values (Sql text binds)) (refused view [] (if unconnected then NotConnected else fault))
    by_rights fault low true = refl
    by_rights fault low false = sym (ap (λ (b : Bool). if b then [] else drawn_by schema next_values (Sql text binds)) (is_early (fault_rank fault) low))

    by_checks : (outcome : Result (Plan ℕ) Fault) → check_of schema binds parsed ≡ outcome → DrewTo (Sql text binds) (checked (table_named schema parsed) binds outcome)
    by_checks (Ok plan) is =
        let drawn : draws_of plan next_values ≡ drawn_by schema next_values (Sql text binds)
        = ap (λ (p : Plan ℕ). draws_of p next_values) (sym (ok_is (first_fault schema binds parsed) (numbered schema parsed) plan is)) ∙ ap drawn_here (sym reads) in
        let env : Environment = record { level = schema.level; binds = binds } in
        subst (λ (draws : List Value). Drew draws (answer schema view next_values row (statement plan binds))) drawn
        (drew_early (draws_of plan next_values) (statement_fault view plan) (executed schema view next_values row env plan)
        (if_some_map (Forbids view plan) (λ fault. fault_rank fault ≤ 11) (statement_fault view plan) (forbids_low view plan) (statements_first view plan).applies)
        (drew_executed env plan))
    by_checks (Err fault) is =
        let low = found_low schema binds parsed fault (lowest_rank_is_told schema binds parsed fault is).0 in
        by_rights fault (omega (arith, low)) (is_none view.rights)

  by_reading : (text : List ℕ) (binds : List Value) (found : Option (Plan Name)) → statement_in schema.version text ≡ found → DrewTo (Sql text binds) (read schema binds found)
  by_reading text binds None is = refl
  by_reading text binds (Some parsed) is = by_checks text binds parsed is (check_of schema binds parsed) refl

  drawn : (call : Call) → DrewTo call (request_of schema call)
  drawn (Connect service) = connects service
  drawn Disconnect = ends
  drawn (Sql text binds) = by_reading text binds (statement_in schema.version text) refl

pub draws_by_rank : DrawsByRank
draws_by_rank schema view next_values row call = drawn schema view next_values row call
