-- What each answer leaves of the savepoints of its view, and of a session that has some.
use Rattle.std.proofs.Common.{◌≡◌, ◌∙◌, ◌⊎◌, inl, inr, ℕ, Bool, true, false, List, [], refl, sym, ap}
use Rattle.std.proofs.lemmas.Bool.{false≢true}
use Rattle.std.specs.Prelude.{◌||◌, not, if◌then◌else◌, is_none, is_some, Option, None, Some}
use Rattle.desk_values.specs.declared.call.Outcome.TheVariants.{Connected, Disconnected}
use Rattle.desk_values.specs.declared.fault.Fault.{Fault}
use Rattle.desk_values.specs.declared.fault.Fault.TheVariants.{NotConnected, UnderWay}
use Rattle.desk_values.specs.declared.value.Value.{Value}
use Rattle.desk_schema.specs.declared.schema.Rights.{Rights}
use Rattle.desk_schema.specs.Schema.{SchemaView, columns_of}
use Rattle.sql_tree.specs.Plain.{Plan, select, next, insert, update, delete, commit, rollback, set_read_only, savepoint, rollback_to}
use Rattle.server_words.specs.declared.causes.Causes.{Causes}
use Rattle.server_words.specs.declared.effect.Effect.{Effect}
use Rattle.server_words.specs.Answer.{Answer, answer, delete_causes, delete_effect, done, ended, executed, gone_back, insert_causes, insert_effect, marked, new_row, reply_of, ruled, select_causes, select_effect, unchanged, unless, update_causes, update_effect}
use Rattle.server_words.specs.Causes.{connect_fault, disconnect_fault, is_empty, is_under_way, ranked, statement_fault}
use Rattle.server_words.specs.Draws.{draws_of}
use Rattle.server_words.specs.Found.{Environment}
use Rattle.server_words.specs.Request.{Request, connect, disconnect, unreadable, unsound, statement}
use Rattle.server_words.specs.View.{View}
use Rattle.law_steps.specs.Reading.{ends_transaction}

-- the request goes back to a savepoint
abbrev pub IsBack : Request → Type 0
IsBack request = (name : List ℕ) × (binds : List Value) × (request ≡ statement (rollback_to name) binds)

-- the answer ends the transaction only where the request goes back
abbrev pub GoesOn : Request → Answer → Type 0
GoesOn request a = ends_transaction a.reply.outcome ≡ true → IsBack request

-- the answer ends the transaction, and the request does not go back
pub record DropsAll (request : Request) (a : Answer) : Type 0 where
  pub none : a.savepoints ≡ []
  pub ends : ends_transaction a.reply.outcome ≡ true
  pub away : ¬ IsBack request

module _ (view : View) where
  abbrev pub SetsOne : Request → Answer → Type 0
  SetsOne request a = (name : List ℕ) × (binds : List Value) × (request ≡ statement (savepoint name) binds) × (a ≡ marked view name)

  abbrev pub GoesToOne : Request → Answer → Type 0
  GoesToOne request a = (name : List ℕ) × (binds : List Value) × (request ≡ statement (rollback_to name) binds) × (a ≡ gone_back view name)

  -- the savepoints are as they were, or all are dropped, or one is set, or gone back to
  abbrev pub Marks : Request → Answer → Type 0
  Marks request a = (a.savepoints ≡ view.savepoints) ⊎ (DropsAll request a ⊎ (SetsOne request a ⊎ GoesToOne request a))

  unless_marks : (request : Request) (draws : List Value) (fault : Option Fault) (a : Answer) → Marks request a → Marks request (unless view draws fault a)
  unless_marks request draws None a marks = marks
  unless_marks request draws (Some fault) a marks = inl refl

  ruled_marks : (request : Request) (table : ℕ) (draws : List Value) (causes : Causes) (effect : Effect) → Marks request (ruled table view draws causes effect)
  ruled_marks request table draws causes effect = unless_marks request draws (ranked causes) (done table view draws effect) (inl refl)

  module _ (schema : SchemaView) (next_values : List ℕ) (row : ℕ) where
    executed_marks : (env : Environment) (binds : List Value) (plan : Plan ℕ) → Marks (statement plan binds) (executed schema view next_values row env plan)
    executed_marks env binds (select table asked condition keys for_update) =
        ruled_marks (statement (select table asked condition keys for_update) binds) table [] (select_causes env view asked condition for_update) (select_effect env view asked condition keys for_update)
    executed_marks env binds (next sequence) = inl refl
    executed_marks env binds (insert table named entries) =
        let draws = draws_of (insert table named entries) next_values in
        let new = new_row env (columns_of schema.tables table) draws row table named entries in
        ruled_marks (statement (insert table named entries) binds) table draws (insert_causes env (columns_of schema.tables table) view draws new entries) (insert_effect new)
    executed_marks env binds (update table changes condition) =
        ruled_marks (statement (update table changes condition) binds) table [] (update_causes env (columns_of schema.tables table) view changes condition) (update_effect env view changes condition)
    executed_marks env binds (delete table condition) = ruled_marks (statement (delete table condition) binds) table [] (delete_causes env view condition) (delete_effect env view condition)
    executed_marks env binds commit = inr (inl (record { none = refl; ends = refl; away = λ back. (let never : statement commit binds ≡ statement (rollback_to back.0) back.1 = back.2 in cc) }))
    executed_marks env binds rollback = inr (inl (record { none = refl; ends = refl; away = λ back. (let never : statement rollback binds ≡ statement (rollback_to back.0) back.1 = back.2 in cc) }))
    executed_marks env binds set_read_only = inl refl
    executed_marks env binds (savepoint name) = inr (inr (inl (name, binds, refl, refl)))
    executed_marks env binds (rollback_to name) = inr (inr (inr (name, binds, refl, refl)))

    pub answer_marks : (request : Request) → Marks request (answer schema view next_values row request)
    answer_marks (connect service) = unless_marks (connect service) [] (connect_fault view service) (record (unchanged view (reply_of Connected [] None)) { rights = service }) (inl refl)
    answer_marks disconnect = unless_marks disconnect [] (disconnect_fault view) (ended None Disconnected)
        (inr (inl (record { none = refl; ends = refl; away = λ back. (let never : disconnect ≡ statement (rollback_to back.0) back.1 = back.2 in cc) })))
    answer_marks unreadable = inl refl
    answer_marks (unsound table fault) = inl refl
    answer_marks (statement plan binds) =
        let env : Environment = record { level = schema.level; binds = binds } in
        unless_marks (statement plan binds) [] (statement_fault view plan) (executed schema view next_values row env plan) (executed_marks env binds plan)

-- ---- a session that is connected and has a savepoint

-- its rights stay, and whether its transaction only reads
pub record IsSteady (view : View) (a : Answer) : Type 0 where
  pub rights : a.rights ≡ view.rights
  pub reads_only : a.reads_only ≡ view.reads_only

last_counts : (a b c d e : Bool) → e ≡ true → (a || b || c || d || e) ≡ true
last_counts true b c d e is = refl
last_counts false true c d e is = refl
last_counts false false true d e is = refl
last_counts false false false true e is = refl
last_counts false false false false e is = is

tells_under_way : (none under : Bool) → under ≡ true → is_some (if none then Some NotConnected else if under then Some UnderWay else None) ≡ true
tells_under_way true under is = refl
tells_under_way false true is = refl
tells_under_way false false is = absurd (false≢true is)

module _ (view : View) (connected : is_some view.rights ≡ true) (there : is_empty view.savepoints ≡ false) where
  abbrev Stays : Request → Answer → Type 0
  Stays request a = GoesOn request a → IsSteady view a

  unless_stays : (request : Request) (draws : List Value) (fault : Option Fault) (a : Answer) → (fault ≡ None → Stays request a) → Stays request (unless view draws fault a)
  unless_stays request draws None a stays = stays refl
  unless_stays request draws (Some fault) a stays = λ goes. record { rights = refl; reads_only = refl }

  under_way : is_under_way view ≡ true
  under_way = last_counts view.reads_only _ _ _ (not (is_empty view.savepoints)) (ap not there)

  marks_fault : is_some (statement_fault view set_read_only) ≡ true
  unfolding statement_fault
  marks_fault = tells_under_way (is_none view.rights) (is_under_way view) under_way

  service_fault : (service : Option Rights) → is_some (connect_fault view service) ≡ true
  service_fault service = rw connected refl

  none_there : (fault : Option Fault) → is_some fault ≡ true → fault ≡ None → ⊥
  none_there fault some none = false≢true (sym (ap is_some none) ∙ some)

  ruled_stays : (request : Request) (table : ℕ) (draws : List Value) (causes : Causes) (effect : Effect) → Stays request (ruled table view draws causes effect)
  ruled_stays request table draws causes effect = unless_stays request draws (ranked causes) (done table view draws effect) (λ none goes. record { rights = refl; reads_only = refl })

  module _ (schema : SchemaView) (next_values : List ℕ) (row : ℕ) where
    executed_stays : (env : Environment) (binds : List Value) (plan : Plan ℕ) → statement_fault view plan ≡ None → Stays (statement plan binds) (executed schema view next_values row env plan)
    executed_stays env binds (select table asked condition keys for_update) none =
        ruled_stays (statement (select table asked condition keys for_update) binds) table [] (select_causes env view asked condition for_update) (select_effect env view asked condition keys for_update)
    executed_stays env binds (next sequence) none = λ goes. record { rights = refl; reads_only = refl }
    executed_stays env binds (insert table named entries) none =
        let draws = draws_of (insert table named entries) next_values in
        let new = new_row env (columns_of schema.tables table) draws row table named entries in
        ruled_stays (statement (insert table named entries) binds) table draws (insert_causes env (columns_of schema.tables table) view draws new entries) (insert_effect new)
    executed_stays env binds (update table changes condition) none =
        ruled_stays (statement (update table changes condition) binds) table [] (update_causes env (columns_of schema.tables table) view changes condition) (update_effect env view changes condition)
    executed_stays env binds (delete table condition) none = ruled_stays (statement (delete table condition) binds) table [] (delete_causes env view condition) (delete_effect env view condition)
    executed_stays env binds commit none = λ goes. absurd (let back = goes refl in let never : statement commit binds ≡ statement (rollback_to back.0) back.1 = back.2 in cc)
    executed_stays env binds rollback none = λ goes. absurd (let back = goes refl in let never : statement rollback binds ≡ statement (rollback_to back.0) back.1 = back.2 in cc)
    executed_stays env binds set_read_only none = absurd (none_there (statement_fault view set_read_only) marks_fault none)
    executed_stays env binds (savepoint name) none = λ goes. record { rights = refl; reads_only = refl }
    executed_stays env binds (rollback_to name) none = λ goes. record { rights = refl; reads_only = refl }

    pub answer_stays : (request : Request) → Stays request (answer schema view next_values row request)
    answer_stays (connect service) = unless_stays (connect service) [] (connect_fault view service) (record (unchanged view (reply_of Connected [] None)) { rights = service })
        (λ none. absurd (none_there (connect_fault view service) (service_fault service) none))
    answer_stays disconnect = unless_stays disconnect [] (disconnect_fault view) (ended None Disconnected)
        (λ none goes. absurd (let back = goes refl in let never : disconnect ≡ statement (rollback_to back.0) back.1 = back.2 in cc))
    answer_stays unreadable = λ goes. record { rights = refl; reads_only = refl }
    answer_stays (unsound table fault) = λ goes. record { rights = refl; reads_only = refl }
    answer_stays (statement plan binds) =
        let env : Environment = record { level = schema.level; binds = binds } in
        unless_stays (statement plan binds) [] (statement_fault view plan) (executed schema view next_values row env plan) (executed_stays env binds plan)
