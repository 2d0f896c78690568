-- The answer to a call: its reply, and the session afterwards. It depends on the view, the next values of the sequences and
-- the number of the next row.
use Rattle.std.specs.Prelude.{ℕ, ◌+◌, Bool, true, false, ◌&&◌, ◌||◌, not, nat_lt, if◌then◌else◌, List, [], ◌∷◌, map, length, Option, None, Some, Result, is_none}
use Rattle.std.specs.List.{list_any}
use Rattle.desk_values.specs.declared.value.Value.{Value}
use Rattle.desk_values.specs.declared.value.Image.{Image}
use Rattle.desk_values.specs.declared.fault.Fault.{Fault}
use Rattle.desk_values.specs.declared.fault.Fault.TheVariants.{Syntax, NotConnected}
use Rattle.desk_values.specs.declared.call.Outcome.{Outcome}
use Rattle.desk_values.specs.declared.call.Outcome.TheVariants.{Rows, Count, Committed, RolledBack, Marked, Connected, Disconnected, Refused}
use Rattle.desk_values.specs.declared.call.Reply.{Reply}
use Rattle.desk_schema.specs.declared.schema.Rights.{Rights}
use Rattle.desk_schema.specs.declared.schema.Column.{Column}
use Rattle.desk_schema.specs.Schema.{SchemaView, columns_of}
use Rattle.sql_tree.specs.declared.tree.Key.{Key}
use Rattle.sql_tree.specs.Plain.{Term, Asked, columns, values, totals, Total, Entry, Change, Plan, select, next, insert, update, delete, commit, rollback, set_read_only, savepoint, rollback_to}
use Rattle.sql_eval.specs.declared.faults.Faults.{Faults}
use Rattle.sql_eval.specs.Faults.{any_fault, joined}
use Rattle.sql_eval.specs.Totals.{total_over, values_in}
use Rattle.server_words.specs.declared.causes.Causes.{Causes}
use Rattle.server_words.specs.Limits.{row_limit}
use Rattle.server_words.specs.declared.effect.Effect.{Effect}
use Rattle.server_words.specs.declared.effect.Writing.{Writing}
use Rattle.server_words.specs.declared.session.Transaction.{Transaction}
use Rattle.server_words.specs.declared.session.Savepoint.{Savepoint}
use Rattle.server_words.specs.Savepoints.{own_at, up_to, with_savepoint}
use Rattle.server_words.specs.Rows.{row_key, row_numbers}
use Rattle.server_words.specs.State.{nothing}
use Rattle.server_words.specs.View.{View}
use Rattle.server_words.specs.Request.{Request, connect, disconnect, unreadable, unsound, statement}
use Rattle.server_words.specs.Draws.{draws_of}
use Rattle.server_words.specs.Causes.{connect_fault, disconnect_fault, statement_fault, ranked, no_cause}
use Rattle.server_words.specs.Found.{Environment, matches, matching, no_faults, ordered, row_faults, sound, values_for, where_faults}
use Rattle.server_words.specs.Writes.{any_value, changed_rows, exceeds, gone, repeats_key, holding, input_value, inputs_for, is_locked_key, leaves, moved_keys, moves_key, row_values, sources, updated, violates_not_null}

pub record Answer : Type 0 where
  pub reply : Reply
  pub rights : Option Rights
  pub reads_only : Bool
  pub own : Transaction
  pub savepoints : List Savepoint

-- ---- the causes of each statement

-- more rows than a statement touches or a transaction changes
abbrev pub is_over : ℕ → Bool
is_over count = nat_lt row_limit count

-- too many rows for a statement, or for its transaction
abbrev pub too_many_rows : List Image → List Image → Bool
too_many_rows changes found = is_over (length found) || is_over (changed_rows changes found)

abbrev pub are_totals : Asked ℕ → Bool
are_totals columns = false
are_totals (values es) = false
are_totals (totals ts) = true

abbrev pub total_in : Environment → List Image → Total ℕ → Result Value Fault
total_in env found t = total_over env.level env.binds t found

abbrev pub totals_in : Environment → List Image → List (Total ℕ) → List Value
totals_in env found ts = map (λ (t : Total ℕ). sound (total_in env found t)) ts

abbrev pub asked_faults : Environment → Asked ℕ → List Image → Faults
asked_faults env columns found = no_faults
asked_faults env (values es) found = row_faults env es found
asked_faults env (totals ts) found = any_fault (total_in env found) ts

abbrev pub with_faults : Faults → Causes → Causes
with_faults faults causes = record causes { divides = faults.divides; overflows = faults.overflows }

abbrev pub select_causes : Environment → View → Asked ℕ → Option (Term ℕ) → Bool → Causes
select_causes env view asked condition for_update =
    let found = matching env condition view.rows in
    with_faults (joined (where_faults env condition view.rows) (asked_faults env asked found)) (record no_cause {
      too_many = (not (are_totals asked) && is_over (length found)) || is_over (length view.own.changes);
      locked = for_update && list_any (matches env condition) view.locked;
    })

-- the causes that new images bring, and the rows that the session would see afterwards
abbrev pub with_images : ℕ → List Column → List Image → List Image → Causes → Causes
with_images level cs images afterwards causes = record causes {
  null = any_value violates_not_null cs images;
  too_long = any_value exceeds cs images;
  out_of_range = any_value leaves cs images;
  duplicate = repeats_key level (map row_key afterwards);
}

-- the row's new key is another one, and is held by another session
abbrev pub meets_lock : Environment → View → List (Change ℕ) → Image → Bool
meets_lock env view changes image = moves_key env changes image && is_locked_key env.level view.locked_keys (row_key (updated env changes image))

-- the rows as an UPDATE leaves them
abbrev pub rows_after : Environment → List (Change ℕ) → Option (Term ℕ) → List Image → List Image
rows_after env changes condition rows = map (λ (image : Image). if matches env condition image then updated env changes image else image) rows

abbrev pub update_causes : Environment → List Column → View → List (Change ℕ) → Option (Term ℕ) → Causes
update_causes env cs view changes condition =
    let found = matching env condition view.rows in
    with_images env.level cs (map (updated env changes) found) (rows_after env changes condition view.rows)
    (with_faults (joined (where_faults env condition view.rows) (row_faults env (sources changes) found)) (record no_cause {
      too_many = too_many_rows view.own.changes found;
      locked = list_any (matches env condition) view.locked || list_any (meets_lock env view changes) found;
    }))

abbrev pub delete_causes : Environment → View → Option (Term ℕ) → Causes
delete_causes env view condition =
    let found = matching env condition view.rows in
    with_faults (where_faults env condition view.rows) (record no_cause {
      too_many = too_many_rows view.own.changes found;
      locked = list_any (matches env condition) view.locked;
    })

abbrev pub new_row : Environment → List Column → List Value → ℕ → ℕ → Option (List ℕ) → List (Entry ℕ) → Image
new_row env cs draws row table named entries = record { row = row; table = table; left = Some (row_values named (inputs_for env draws entries) 0 cs) }

-- those that a new row brings whose inputs have these faults
abbrev pub new_causes : Environment → List Column → View → Faults → Image → Causes
new_causes env cs view faults new =
    with_images env.level cs (new ∷ []) (new ∷ view.rows)
    (with_faults faults (record no_cause {
      too_many = is_over (length view.own.changes + 1);
      locked = is_locked_key env.level view.locked_keys (row_key new);
    }))

abbrev pub insert_causes : Environment → List Column → View → List Value → Image → List (Entry ℕ) → Causes
insert_causes env cs view draws new entries = new_causes env cs view (any_fault (input_value env draws) entries) new

-- ---- the effect of each statement

abbrev pub no_writing : Writing
no_writing = record { images = []; rows = []; keys = [] }

-- one row of items for each row, in their order; or one row of totals
abbrev pub select_rows : Environment → Asked ℕ → List (Key ℕ) → List Image → List (List Value)
select_rows env columns keys found = map values_in (ordered env.level keys found)
select_rows env (values es) keys found = map (values_for env es) (ordered env.level keys found)
select_rows env (totals ts) keys found = totals_in env found ts ∷ []

-- what is answered of these rows, and held
abbrev pub selection : Environment → Asked ℕ → List (Key ℕ) → Bool → List Image → Effect
selection env asked keys for_update found = record { outcome = Rows (select_rows env asked keys found); made = None; writing = record no_writing { rows = if for_update then row_numbers found else [] } }

abbrev pub select_effect : Environment → View → Asked ℕ → Option (Term ℕ) → List (Key ℕ) → Bool → Effect
select_effect env view asked condition keys for_update = selection env asked keys for_update (matching env condition view.rows)

-- these rows are changed
abbrev pub changing : Environment → List (Change ℕ) → List Image → Effect
changing env changes found = record { outcome = Count (length found); made = None; writing = record { images = map (updated env changes) found; rows = row_numbers found; keys = moved_keys env changes found } }

abbrev pub update_effect : Environment → View → List (Change ℕ) → Option (Term ℕ) → Effect
update_effect env view changes condition = changing env changes (matching env condition view.rows)

-- these rows go
abbrev pub deletion : List Image → Effect
deletion found = record { outcome = Count (length found); made = None; writing = record { images = map gone found; rows = row_numbers found; keys = map row_key found } }

abbrev pub delete_effect : Environment → View → Option (Term ℕ) → Effect
delete_effect env view condition = deletion (matching env condition view.rows)

abbrev pub insert_effect : Image → Effect
insert_effect new = record { outcome = Count 1; made = Some new.row; writing = record { images = new ∷ []; rows = new.row ∷ []; keys = row_key new ∷ [] } }

-- ---- the answer

abbrev pub reply_of : Outcome → List Value → Option ℕ → Reply
reply_of outcome draws made = record { outcome = outcome; draws = draws; made = made }

-- the session is as before
abbrev pub unchanged : View → Reply → Answer
unchanged view reply = record { reply = reply; rights = view.rights; reads_only = view.reads_only; own = view.own; savepoints = view.savepoints }

-- the call is refused, with what it drew before
abbrev pub refused : View → List Value → Fault → Answer
refused view draws fault = unchanged view (reply_of (Refused fault) draws None)

-- the transaction has ended
abbrev pub ended : Option Rights → Outcome → Answer
ended rights outcome = record { reply = reply_of outcome [] None; rights = rights; reads_only = false; own = nothing; savepoints = [] }

-- what the session has of its own is kept under this name
abbrev pub marked : View → List ℕ → Answer
marked view name =
    record (unchanged view (reply_of Marked [] None)) { savepoints = with_savepoint view.savepoints (record { name = name; own = view.own }) }

-- it has again what it had at the savepoint of this name, which stays, and those after it are dropped
abbrev pub gone_back : View → List ℕ → Answer
gone_back view name =
    record (unchanged view (reply_of RolledBack [] None)) { own = own_at name view.own view.savepoints; savepoints = up_to name view.savepoints }

-- the statement writes and holds what it does
abbrev pub done : ℕ → View → List Value → Effect → Answer
done table view draws effect = record (unchanged view (reply_of effect.outcome draws effect.made)) { own = holding table view.own effect.writing }

-- refused with this fault, or answered so
abbrev pub unless : View → List Value → Option Fault → Answer → Answer
unless view draws (Some fault) a = refused view draws fault
unless view draws None a = a

-- refused by the first cause that applies, else done
abbrev pub ruled : ℕ → View → List Value → Causes → Effect → Answer
ruled table view draws causes effect = unless view draws (ranked causes) (done table view draws effect)

-- a statement that neither the session's rights nor its transaction forbid
abbrev pub executed : SchemaView → View → List ℕ → ℕ → Environment → Plan ℕ → Answer
executed schema view next_values row env (select table asked condition keys for_update) =
    ruled table view [] (select_causes env view asked condition for_update) (select_effect env view asked condition keys for_update)
executed schema view next_values row env (next sequence) =
    let draws = draws_of (next sequence) next_values in unchanged view (reply_of (Rows (draws ∷ [])) draws None)
executed schema view next_values row env (insert table named entries) =
    let cs = columns_of schema.tables table in
    let draws = draws_of (insert table named entries) next_values in
    let new = new_row env cs draws row table named entries in
    ruled table view draws (insert_causes env cs view draws new entries) (insert_effect new)
executed schema view next_values row env (update table changes condition) =
    ruled table view [] (update_causes env (columns_of schema.tables table) view changes condition) (update_effect env view changes condition)
executed schema view next_values row env (delete table condition) = ruled table view [] (delete_causes env view condition) (delete_effect env view condition)
executed schema view next_values row env commit = ended view.rights (Committed view.own.changes)
executed schema view next_values row env rollback = ended view.rights RolledBack
executed schema view next_values row env set_read_only = record (unchanged view (reply_of Marked [] None)) { reads_only = true }
executed schema view next_values row env (savepoint name) = marked view name
executed schema view next_values row env (rollback_to name) = gone_back view name

abbrev pub answer : SchemaView → View → List ℕ → ℕ → Request → Answer
answer schema view next_values row (connect service) = unless view [] (connect_fault view service) (record (unchanged view (reply_of Connected [] None)) { rights = service })
answer schema view next_values row disconnect = unless view [] (disconnect_fault view) (ended None Disconnected)
answer schema view next_values row unreadable = refused view [] Syntax
answer schema view next_values row (unsound table fault) = refused view [] (if is_none view.rights then NotConnected else fault)
answer schema view next_values row (statement plan binds) =
    unless view [] (statement_fault view plan) (executed schema view next_values row (record { level = schema.level; binds = binds }) plan)
