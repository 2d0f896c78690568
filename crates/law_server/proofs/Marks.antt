-- No statement but the two on savepoints reads more of them than whether there is one.
use Rattle.std.proofs.Common.{◌≡◌, inl, inr, ℕ, true, false, ◌||◌, ◌&&◌, not, List, [], if◌then◌else◌, Option, None, Some, refl}
use Rattle.std.specs.Prelude.{is_none}
use Rattle.desk_values.specs.declared.value.Value.{Value}
use Rattle.desk_values.specs.declared.fault.Fault.{Fault}
use Rattle.desk_values.specs.declared.fault.Fault.TheVariants.{NoSavepoint, NotConnected, ReadOnly, UnderWay}
use Rattle.desk_values.specs.declared.call.Outcome.TheVariants.{Connected, Disconnected}
use Rattle.desk_schema.specs.Schema.{SchemaView, columns_of}
use Rattle.sql_tree.specs.Plain.{Plan, select, next, insert, update, delete, commit, rollback, set_read_only, savepoint, rollback_to}
use Rattle.server_words.specs.declared.session.Savepoint.{Savepoint}
use Rattle.server_words.specs.declared.causes.Causes.{Causes}
use Rattle.server_words.specs.declared.effect.Effect.{Effect}
use Rattle.server_words.specs.Answer.{Answer, delete_causes, delete_effect, done, ended, executed, insert_causes, insert_effect, new_row, reply_of, ruled, select_causes, select_effect, unchanged, unless, update_causes, update_effect}
use Rattle.server_words.specs.Draws.{draws_of}
use Rattle.server_words.specs.Causes.{connect_fault, disconnect_fault, ranked, is_empty, is_read_only, is_under_way, lacks_savepoint, needs_write_access, sets_read_only, statement_fault}
use Rattle.server_words.specs.Found.{Environment}
use Rattle.server_words.specs.Request.{connect, disconnect, unreadable, unsound, statement, names_savepoint}
use Rattle.server_words.specs.View.{View}
use Rattle.law_server.specs.Marks.{IsSameButMarks, OthersReadNoSavepoint, marked_so}

module _ (schema : SchemaView) (view : View) (next_values : List ℕ) (row : ℕ) (savepoints : List Savepoint) (alike : is_empty savepoints ≡ is_empty view.savepoints) where
  abbrev other : View
  other = marked_so savepoints view

  abbrev Alike : Answer → Answer → Type 0
  Alike a b = IsSameButMarks view other a b

  unless_alike : (draws : List Value) (fault : Option Fault) (a b : Answer) → Alike a b → Alike (unless view draws fault a) (unless other draws fault b)
  unless_alike draws None a b same = same
  unless_alike draws (Some fault) a b same = record { reply = refl; rights = refl; reads_only = refl; own = refl; savepoints = inl (refl, refl) }

  faults_alike : (draws : List Value) (f g : Option Fault) (a b : Answer) → g ≡ f → Alike a b → Alike (unless view draws f a) (unless other draws g b)
  faults_alike draws None None a b e same = same
  faults_alike draws (Some f) (Some g) a b e same =
      let is : g ≡ f = cc in
      record { reply = rw is refl; rights = refl; reads_only = refl; own = refl; savepoints = inl (refl, refl) }
  faults_alike draws None (Some g) a b e same = absurd cc
  faults_alike draws (Some f) None a b e same = absurd cc

  ruled_alike : (table : ℕ) (draws : List Value) (causes : Causes) (effect : Effect) → Alike (ruled table view draws causes effect) (ruled table other draws causes effect)
  ruled_alike table draws causes effect =
      unless_alike draws (ranked causes) (done table view draws effect) (done table other draws effect) (record { reply = refl; rights = refl; reads_only = refl; own = refl; savepoints = inl (refl, refl) })

  executed_alike : (env : Environment) (plan : Plan ℕ) → names_savepoint plan ≡ false → Alike (executed schema view next_values row env plan) (executed schema other next_values row env plan)
  executed_alike env (select table asked condition keys for_update) is = ruled_alike table [] (select_causes env view asked condition for_update) (select_effect env view asked condition keys for_update)
  executed_alike env (next sequence) is = record { reply = refl; rights = refl; reads_only = refl; own = refl; savepoints = inl (refl, refl) }
  executed_alike env (insert table named entries) is =
      let draws = draws_of (insert table named entries) next_values in
      let new = new_row env (columns_of schema.tables table) draws row table named entries in
      ruled_alike table draws (insert_causes env (columns_of schema.tables table) view draws new entries) (insert_effect new)
  executed_alike env (update table changes condition) is = ruled_alike table [] (update_causes env (columns_of schema.tables table) view changes condition) (update_effect env view changes condition)
  executed_alike env (delete table condition) is = ruled_alike table [] (delete_causes env view condition) (delete_effect env view condition)
  executed_alike env commit is = record { reply = refl; rights = refl; reads_only = refl; own = refl; savepoints = inr (refl, refl) }
  executed_alike env rollback is = record { reply = refl; rights = refl; reads_only = refl; own = refl; savepoints = inr (refl, refl) }
  executed_alike env set_read_only is = record { reply = refl; rights = refl; reads_only = refl; own = refl; savepoints = inl (refl, refl) }
  executed_alike env (savepoint name) is = absurd (let never : true ≡ false = is in cc)
  executed_alike env (rollback_to name) is = absurd (let never : true ≡ false = is in cc)

  same_lacks : (plan : Plan ℕ) → names_savepoint plan ≡ false → lacks_savepoint other plan ≡ lacks_savepoint view plan
  same_lacks (rollback_to name) is = absurd (let never : true ≡ false = is in cc)
  same_lacks plan is = refl

  same_under_way : is_under_way other ≡ is_under_way view
  same_under_way = λ i. view.reads_only || not (is_empty view.own.changes) || not (is_empty view.own.rows) || not (is_empty view.own.keys) || not (alike i)

  same_fault : (plan : Plan ℕ) → names_savepoint plan ≡ false → statement_fault other plan ≡ statement_fault view plan
  unfolding statement_fault
  same_fault plan is = λ i. if is_none view.rights then Some NotConnected else if needs_write_access plan && (is_read_only view.rights || view.reads_only) then Some ReadOnly else if sets_read_only plan && same_under_way i then Some UnderWay else if same_lacks plan is i then Some NoSavepoint else None

pub others_read_none : OthersReadNoSavepoint
others_read_none schema view next_values row (connect service) savepoints is alike =
    let other = marked_so savepoints view in
    unless_alike schema view next_values row savepoints alike [] (connect_fault view service)
    (record (unchanged view (reply_of Connected [] None)) { rights = service }) (record (unchanged other (reply_of Connected [] None)) { rights = service })
    (record { reply = refl; rights = refl; reads_only = refl; own = refl; savepoints = inl (refl, refl) })
others_read_none schema view next_values row disconnect savepoints is alike =
    unless_alike schema view next_values row savepoints alike [] (disconnect_fault view) (ended None Disconnected) (ended None Disconnected)
    (record { reply = refl; rights = refl; reads_only = refl; own = refl; savepoints = inr (refl, refl) })
others_read_none schema view next_values row unreadable savepoints is alike = record { reply = refl; rights = refl; reads_only = refl; own = refl; savepoints = inl (refl, refl) }
others_read_none schema view next_values row (unsound table fault) savepoints is alike = record { reply = refl; rights = refl; reads_only = refl; own = refl; savepoints = inl (refl, refl) }
others_read_none schema view next_values row (statement plan binds) savepoints is alike =
    let env : Environment = record { level = schema.level; binds = binds } in
    faults_alike schema view next_values row savepoints alike [] (statement_fault view plan) (statement_fault (marked_so savepoints view) plan)
    (executed schema view next_values row env plan) (executed schema (marked_so savepoints view) next_values row env plan)
    (same_fault schema view next_values row savepoints alike plan is) (executed_alike schema view next_values row savepoints alike env plan is)
