-- What one answer gives out: no row or the next one, and the next values of the sequences that the statement names.
use Rattle.std.proofs.Common.{◌≡◌, ◌∙◌, ℕ, ◌+◌, Bool, false, List, [], ◌∷◌, refl, inl, inr}
use Rattle.std.specs.Prelude.{Option, None, Some}
use Rattle.desk_values.specs.declared.fault.Fault.{Fault}
use Rattle.desk_values.specs.declared.call.Call.{Call}
use Rattle.desk_values.specs.declared.call.Outcome.TheVariants.{Connected, Disconnected}
use Rattle.desk_schema.specs.Schema.{SchemaView, columns_of}
use Rattle.sql_tree.specs.Plain.{Plan, select, next, insert, update, delete, commit, rollback, set_read_only, savepoint, rollback_to}
use Rattle.server_words.specs.State.{State}
use Rattle.server_words.specs.View.{View}
use Rattle.server_words.specs.Request.{Request, connect, disconnect, unreadable, unsound, statement, request_of}
use Rattle.server_words.specs.Draws.{draws_from, draws_of, drawn_from}
use Rattle.server_words.specs.Found.{Environment}
use Rattle.server_words.specs.declared.effect.Effect.{Effect}
use Rattle.server_words.specs.Causes.{connect_fault, disconnect_fault, statement_fault}
use Rattle.server_words.specs.Answer.{Answer, answer, delete_effect, done, ended, executed, insert_effect, new_row, reply_of, select_effect, unchanged, unless, update_effect}
use Rattle.server_words.specs.Step.{reply_in, view_for}
use Rattle.law_ids.specs.Given.{GivesNext}

no_draws : (from : ℕ) (ns : List ℕ) → [] ≡ drawn_from (λ n. false) from ns
no_draws from [] = refl
no_draws from (n ∷ ns) = no_draws (from + 1) ns

module _ (next_values : List ℕ) (row : ℕ) where
  abbrev IsNext : Answer → Type 0
  IsNext a = GivesNext next_values row a.reply

  nothing_given : (a : Answer) → a.reply.made ≡ None → a.reply.draws ≡ [] → IsNext a
  nothing_given a made draws = record { made = inl made; test = λ n. false; draws = draws ∙ no_draws 0 next_values }

  unless_given : (view : View) (test : ℕ → Bool) (fault : Option Fault) (a : Answer) → IsNext a → IsNext (unless view (drawn_from test 0 next_values) fault a)
  unless_given view test None a is = is
  unless_given view test (Some fault) a is = record { made = inl refl; test = test; draws = refl }

  unless_none : (view : View) (fault : Option Fault) (a : Answer) → IsNext a → IsNext (unless view [] fault a)
  unless_none view None a is = is
  unless_none view (Some fault) a is = nothing_given (unless view [] (Some fault) a) refl refl

  done_given : (table : ℕ) (view : View) (effect : Effect) → effect.made ≡ None → IsNext (done table view [] effect)
  done_given table view effect made = nothing_given (done table view [] effect) made refl

  executed_given : (schema : SchemaView) (view : View) (env : Environment) (plan : Plan ℕ) → IsNext (executed schema view next_values row env plan)
  executed_given schema view env (select table asked condition keys for_update) = unless_none view _ _ (done_given table view (select_effect env view asked condition keys for_update) refl)
  executed_given schema view env (next sequence) = record { made = inl refl; test = draws_from (next sequence); draws = refl }
  executed_given schema view env (insert table named entries) =
      let draws = draws_of (insert table named entries) next_values in
      let new = new_row env (columns_of schema.tables table) draws row table named entries in
      let gives : IsNext (done table view draws (insert_effect new)) = record { made = inr refl; test = draws_from (insert table named entries); draws = refl } in
      unless_given view (draws_from (insert table named entries)) _ _ gives
  executed_given schema view env (update table changes condition) = unless_none view _ _ (done_given table view (update_effect env view changes condition) refl)
  executed_given schema view env (delete table condition) = unless_none view _ _ (done_given table view (delete_effect env view condition) refl)
  executed_given schema view env commit = nothing_given (executed schema view next_values row env commit) refl refl
  executed_given schema view env rollback = nothing_given (executed schema view next_values row env rollback) refl refl
  executed_given schema view env set_read_only = nothing_given (executed schema view next_values row env set_read_only) refl refl
  executed_given schema view env (savepoint name) = nothing_given (executed schema view next_values row env (savepoint name)) refl refl
  executed_given schema view env (rollback_to name) = nothing_given (executed schema view next_values row env (rollback_to name)) refl refl

  answer_given : (schema : SchemaView) (view : View) (request : Request) → IsNext (answer schema view next_values row request)
  answer_given schema view (connect service) =
      let connected : Answer = record (unchanged view (reply_of Connected [] None)) { rights = service } in
      unless_none view (connect_fault view service) connected (nothing_given connected refl refl)
  answer_given schema view disconnect = unless_none view (disconnect_fault view) (ended None Disconnected) (nothing_given (ended None Disconnected) refl refl)
  answer_given schema view unreadable = nothing_given (answer schema view next_values row unreadable) refl refl
  answer_given schema view (unsound table fault) = nothing_given (answer schema view next_values row (unsound table fault)) refl refl
  answer_given schema view (statement plan binds) =
      let env : Environment = record { level = schema.level; binds = binds } in
      unless_none view (statement_fault view plan) (executed schema view next_values row env plan) (executed_given schema view env plan)

pub reply_given : (state : State) (session : ℕ) (call : Call) → GivesNext state.next_values state.next_row (reply_in state session call)
reply_given state session call =
    let request = request_of state.start.schema call in
    answer_given state.next_values state.next_row state.start.schema (view_for state session request) request
