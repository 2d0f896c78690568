-- Each answer to a call keeps rows and keys apart.
use Rattle.std.proofs.Common.{◌≡◌, ◌∙◌, ℕ, Bool, true, false, ◌&&◌, ◌||◌, not, List, [], ◌∷◌, refl, sym, ap, subst, inl, inr, if◌then◌else◌}
use Rattle.std.specs.Prelude.{Option, None, Some, is_some, is_none}
use Rattle.std.specs.List.{AllByRecursion, list_any}
use Rattle.std.proofs.lemmas.Bool.{false≢true, or_parts}
use Rattle.desk_values.specs.declared.value.Value.{Value}
use Rattle.desk_values.specs.declared.value.Image.{Image}
use Rattle.desk_values.specs.declared.call.Call.{Call}
use Rattle.desk_values.specs.declared.fault.Fault.{Fault}
use Rattle.desk_values.specs.declared.fault.Fault.TheVariants.{NotConnected, Syntax}
use Rattle.desk_values.specs.declared.call.Outcome.TheVariants.{Connected, Disconnected}
use Rattle.desk_schema.specs.Schema.{columns_of}
use Rattle.sql_tree.specs.declared.tree.Key.{Key}
use Rattle.sql_tree.specs.Plain.{Term, Asked, Entry, Change, Plan, select, next, insert, update, delete, commit, rollback, set_read_only, savepoint, rollback_to}
use Rattle.sql_eval.specs.SchemaNames.{table_of}
use Rattle.server_words.specs.declared.causes.Causes.{Causes}
use Rattle.server_words.specs.declared.effect.Effect.{Effect}
use Rattle.server_words.specs.Answer.{Answer, answer, delete_causes, delete_effect, done, executed, gone_back, insert_causes, insert_effect, marked, meets_lock, new_row, ended, refused, reply_of, ruled, select_causes, select_effect, unchanged, unless, update_causes, update_effect}
use Rattle.server_words.specs.Causes.{connect_fault, disconnect_fault, is_empty, is_read_only, is_under_way, needs_write_access, ranked, sets_read_only, statement_fault}
use Rattle.server_words.specs.Draws.{draws_of}
use Rattle.server_words.specs.Found.{Environment, matches, matching}
use Rattle.server_words.specs.Request.{Request, connect, disconnect, unreadable, unsound, statement, request_of, table_in}
use Rattle.server_words.specs.Rows.{lay, lay_all, row_numbers}
use Rattle.server_words.specs.declared.session.Savepoint.{Savepoint}
use Rattle.server_words.specs.declared.session.Transaction.{Transaction}
use Rattle.server_words.proofs.Marks.{each_up_to, each_with, own_at_one}
use Rattle.server_words.specs.State.{State, nothing, session_at}
use Rattle.server_words.specs.Step.{after, step}
use Rattle.server_words.specs.View.{View, view_of}
use Rattle.law_keys.proofs.Members.{In, in_filtered, none_in}
use Rattle.law_keys.proofs.Writing.{Sees, deletes, holds_rows, inserts}
use Rattle.law_keys.proofs.Updating.{updates}
use Rattle.law_keys.proofs.Seeing.{own_in, sees}
use Rattle.law_keys.proofs.Steps.{IsTidy, commits, ends, own_kept, stays, turns, writes}
use Rattle.law_keys.proofs.Choices.{HasNothing, IsChoice, IsLess, back_choice, back_kept, choice_less, marked_choice, nested_back, nested_marked}

-- ---- what it is that nothing forbids

passes : (test : Bool) (fault : Fault) (rest : Option Fault) → (if test then Some fault else rest) ≡ None → (test ≡ false) × (rest ≡ None)
passes true fault rest is = absurd cc
passes false fault rest is = (refl, is)

-- no cause of a lock, and none of a key that repeats
free_causes : (causes : Causes) → ranked causes ≡ None → (causes.locked ≡ false) × (causes.duplicate ≡ false)
unfolding ranked
free_causes causes is =
    let divides = passes causes.divides _ _ is in
    let overflows = passes causes.overflows _ _ divides.1 in
    let too_many = passes causes.too_many _ _ overflows.1 in
    let locked = passes causes.locked _ _ too_many.1 in
    let null = passes causes.null _ _ locked.1 in
    let too_long = passes causes.too_long _ _ null.1 in
    let out_of_range = passes causes.out_of_range _ _ too_long.1 in
    (locked.0, (passes causes.duplicate _ _ out_of_range.1).0)

module _ (view : View) (plan : Plan ℕ) (is : statement_fault view plan ≡ None) where
  may_write : needs_write_access plan ≡ true → view.reads_only ≡ false
  unfolding statement_fault
  may_write needs =
      let connected = passes (is_none view.rights) _ _ is in
      let writable = passes (needs_write_access plan && (is_read_only view.rights || view.reads_only)) _ _ connected.1 in
      (or_parts (is_read_only view.rights) view.reads_only (ap (λ b. b && (is_read_only view.rights || view.reads_only)) (sym needs) ∙ writable.0)).1

  not_under_way : sets_read_only plan ≡ true → is_under_way view ≡ false
  unfolding statement_fault
  not_under_way sets =
      let connected = passes (is_none view.rights) _ _ is in
      let writable = passes (needs_write_access plan && (is_read_only view.rights || view.reads_only)) _ _ connected.1 in
      let begun = passes (sets_read_only plan && is_under_way view) _ _ writable.1 in
      ap (λ b. b && is_under_way view) (sym sets) ∙ begun.0

empty_is : {X : Type 0} (xs : List X) → not (is_empty xs) ≡ false → xs ≡ []
empty_is [] is = refl
empty_is (x ∷ xs) is = absurd (false≢true (sym is))

nothing_yet : (view : View) → is_under_way view ≡ false → view.own ≡ nothing
nothing_yet view is =
    let marks = or_parts _ (not (is_empty view.savepoints)) is in
    let keys = or_parts _ (not (is_empty view.own.keys)) marks.0 in
    let rows = or_parts _ (not (is_empty view.own.rows)) keys.0 in
    let changes = or_parts view.reads_only (not (is_empty view.own.changes)) rows.0 in
    let no_changes = empty_is view.own.changes changes.1 in
    let no_rows = empty_is view.own.rows rows.1 in
    let no_keys = empty_is view.own.keys keys.1 in
    λ i. record { changes = no_changes i; rows = no_rows i; keys = no_keys i }

no_marks : (view : View) → is_under_way view ≡ false → view.savepoints ≡ []
no_marks view is = empty_is view.savepoints (or_parts _ (not (is_empty view.savepoints)) is).1

reads_latest : (snapshot : Option ℕ) → is_some snapshot ≡ false → snapshot ≡ None
reads_latest None is = refl
reads_latest (Some n) is = absurd (false≢true (sym is))

-- ---- answers

-- what a statement is evaluated with
abbrev env_in : State → List Value → Environment
env_in state binds = record { level = state.start.schema.level; binds = binds }

module _ (state : State) (is : IsTidy state) (session : ℕ) where
  -- a session without a table sees itself, and so does one with a table
  own_seen : (table : Option ℕ) → (view_of state session table).own ≡ own_in state session
  own_seen None = refl
  own_seen (Some table) = refl

  reads_seen : (table : Option ℕ) → (view_of state session table).reads_only ≡ is_some (session_at state session).snapshot
  reads_seen None = refl
  reads_seen (Some table) = refl

  marks_seen : (table : Option ℕ) → (view_of state session table).savepoints ≡ (session_at state session).savepoints
  marks_seen None = refl
  marks_seen (Some table) = refl

  only_reads : (table : Option ℕ) → (view_of state session table).reads_only ≡ true → HasNothing (session_at state session)
  only_reads table reads = is.reads session (sym (reads_seen table) ∙ reads)

  refused_tidy : (table : Option ℕ) (draws : List Value) (fault : Fault) → IsTidy (after state session (refused (view_of state session table) draws fault))
  refused_tidy table draws fault = stays state is session (refused (view_of state session table) draws fault) (own_seen table) (marks_seen table) refl refl (only_reads table)

  unless_tidy : (table : Option ℕ) (draws : List Value) (fault : Option Fault) (a : Answer) → (fault ≡ None → IsTidy (after state session a)) → IsTidy (after state session (unless (view_of state session table) draws fault a))
  unless_tidy table draws None a tidy = tidy refl
  unless_tidy table draws (Some fault) a tidy = refused_tidy table draws fault

  -- what the session sees of a table
  abbrev on : ℕ → View
  on table = view_of state session (Some table)

  -- a statement on a table that may write
  module _ (table : ℕ) (binds : List Value) (writing : (on table).reads_only ≡ false) where
    here : Sees state.start.schema.level state.start.rows state.commits (own_in state) session table (on table)
    here = sees state (own_kept state is) session table (reads_latest (session_at state session).snapshot writing)

    -- whatever the others go back to
    module _ (choice : ℕ → Transaction) (is_one : IsChoice state choice) (at : choice session ≡ own_in state session) where
      less : (t : ℕ) → IsLess (choice t) (own_in state t)
      less t = choice_less (session_at state t) (choice t) (is.nested t) (is_one t)

      sees_so : Sees state.start.schema.level state.start.rows state.commits choice session table (on table)
      sees_so = record {
        rows_in = λ x there. subst (λ (own : Transaction). In x (lay (lay_all state.start.rows state.commits) own.changes) × (x.table ≡ table)) (sym at) (here.rows_in x there);
        in_rows = λ x there of. here.in_rows x (subst (λ (own : Transaction). In x (lay (lay_all state.start.rows state.commits) own.changes)) at there) of;
        locked = λ x t other there held. here.locked x t other there ((less t).rows x.row held);
        locked_key = λ t l v other held key. here.locked_key t l v other ((less t).keys l held) key;
        transaction = sym at;
      }

    module _ (condition : Option (Term ℕ)) (unlocked : list_any (matches (env_in state binds) condition) (on table).locked ≡ false) where
      among : (x : Image) → In x (matching (env_in state binds) condition (on table).rows) → In x (on table).rows
      among x there = (in_filtered (matches (env_in state binds) condition) x (on table).rows there).0

      free : (choice : ℕ → Transaction) → IsChoice state choice → (x : Image) (t : ℕ) → (t ≡ session → ⊥) → In x (matching (env_in state binds) condition (on table).rows) → In x.row (choice t).rows → ⊥
      free choice is_one x t other there held =
          let found = in_filtered (matches (env_in state binds) condition) x (on table).rows there in
          let theirs = (choice_less (session_at state t) (choice t) (is.nested t) (is_one t)).rows x.row held in
          false≢true (sym (none_in (matches (env_in state binds) condition) x (on table).locked unlocked (here.locked x t other found.0 theirs)) ∙ found.1)

  -- ---- statements that nothing forbids

  module _ (binds : List Value) where
    held_rows : (for_update : Bool) (found : List Image) (row : ℕ) → In row (if for_update then row_numbers found else []) → In row (row_numbers found)
    held_rows true found row there = there
    held_rows false found row there = absurd there

    select_tidy : (table : ℕ) (asked : Asked ℕ) (condition : Option (Term ℕ)) (keys : List (Key ℕ)) (for_update : Bool) → (for_update ≡ true → (on table).reads_only ≡ false)
        → ranked (select_causes (env_in state binds) (on table) asked condition for_update) ≡ None
        → IsTidy (after state session (done table (on table) [] (select_effect (env_in state binds) (on table) asked condition keys for_update)))
    select_tidy table asked condition keys false may none = stays state is session (done table (on table) [] (select_effect (env_in state binds) (on table) asked condition keys false)) refl refl refl refl (only_reads (Some table))
    select_tidy table asked condition keys true may none =
        let view = on table in
        let unlocked = (free_causes (select_causes (env_in state binds) view asked condition true) none).0 in
        let found = matching (env_in state binds) condition view.rows in
        writes state is session (done table view [] (select_effect (env_in state binds) view asked condition keys true)) table (record { images = []; rows = row_numbers found; keys = [] }) refl refl refl (inl refl) (may refl) (λ choice kept is_one at.
        holds_rows state.start.schema.level state.start.rows state.commits state.next_row choice kept session table view (sees_so table binds (may refl) choice is_one at) found (among table binds (may refl) condition unlocked) (free table binds (may refl) condition unlocked choice is_one) (row_numbers found) (λ row there. there))

    insert_tidy : (table : ℕ) (named : Option (List ℕ)) (entries : List (Entry ℕ)) (draws : List Value) → (on table).reads_only ≡ false
        → ranked (insert_causes (env_in state binds) (columns_of state.start.schema.tables table) (on table) draws (new_row (env_in state binds) (columns_of state.start.schema.tables table) draws state.next_row table named entries) entries) ≡ None
        → IsTidy (after state session (done table (on table) draws (insert_effect (new_row (env_in state binds) (columns_of state.start.schema.tables table) draws state.next_row table named entries))))
    insert_tidy table named entries draws may none =
        let view = on table in
        let cs = columns_of state.start.schema.tables table in
        let new = new_row (env_in state binds) cs draws state.next_row table named entries in
        let causes = free_causes (insert_causes (env_in state binds) cs view draws new entries) none in
        writes state is session (done table view draws (insert_effect new)) table (insert_effect new).writing refl refl refl (inr refl) may (λ choice kept is_one at.
        inserts state.start.schema.level state.start.rows state.commits state.next_row choice kept session table view (sees_so table binds may choice is_one at) new refl refl causes.0 causes.1)

    update_tidy : (table : ℕ) (changes : List (Change ℕ)) (condition : Option (Term ℕ)) → (on table).reads_only ≡ false
        → ranked (update_causes (env_in state binds) (columns_of state.start.schema.tables table) (on table) changes condition) ≡ None
        → IsTidy (after state session (done table (on table) [] (update_effect (env_in state binds) (on table) changes condition)))
    update_tidy table changes condition may none =
        let view = on table in
        let env = env_in state binds in
        let causes = free_causes (update_causes env (columns_of state.start.schema.tables table) view changes condition) none in
        let locks = or_parts (list_any (matches env condition) view.locked) (list_any (meets_lock env view changes) (matching env condition view.rows)) causes.0 in
        writes state is session (done table view [] (update_effect env view changes condition)) table (update_effect env view changes condition).writing refl refl refl (inl refl) may (λ choice kept is_one at.
        updates env state.start.rows state.commits state.next_row choice kept session table view (sees_so table binds may choice is_one at) changes condition (free table binds may condition locks.0 choice is_one) locks.1 causes.1)

    delete_tidy : (table : ℕ) (condition : Option (Term ℕ)) → (on table).reads_only ≡ false
        → ranked (delete_causes (env_in state binds) (on table) condition) ≡ None
        → IsTidy (after state session (done table (on table) [] (delete_effect (env_in state binds) (on table) condition)))
    delete_tidy table condition may none =
        let view = on table in
        let unlocked = (free_causes (delete_causes (env_in state binds) view condition) none).0 in
        writes state is session (done table view [] (delete_effect (env_in state binds) view condition)) table (delete_effect (env_in state binds) view condition).writing refl refl refl (inl refl) may (λ choice kept is_one at.
        deletes state.start.schema.level state.start.rows state.commits state.next_row choice kept session table view (sees_so table binds may choice is_one at) (matching (env_in state binds) condition view.rows) (among table binds may condition unlocked) (free table binds may condition unlocked choice is_one))

    ruled_tidy : (table : ℕ) (draws : List Value) (causes : Causes) (effect : Effect) → (ranked causes ≡ None → IsTidy (after state session (done table (on table) draws effect))) → IsTidy (after state session (ruled table (on table) draws causes effect))
    ruled_tidy table draws causes effect tidy = unless_tidy (Some table) draws (ranked causes) (done table (on table) draws effect) tidy

    executed_tidy : (plan : Plan ℕ) → statement_fault (view_of state session (table_of plan)) plan ≡ None → IsTidy (after state session (executed state.start.schema (view_of state session (table_of plan)) state.next_values state.next_row (env_in state binds) plan))
    executed_tidy (select table asked condition keys for_update) free = ruled_tidy table [] (select_causes (env_in state binds) (on table) asked condition for_update) (select_effect (env_in state binds) (on table) asked condition keys for_update) (select_tidy table asked condition keys for_update (may_write (on table) (select table asked condition keys for_update) free))
    executed_tidy (next sequence) free = stays state is session (executed state.start.schema (view_of state session None) state.next_values state.next_row (env_in state binds) (next sequence)) refl refl refl refl (only_reads None)
    executed_tidy (insert table named entries) free =
        let draws = draws_of (insert table named entries) state.next_values in
        let cs = columns_of state.start.schema.tables table in
        let new = new_row (env_in state binds) cs draws state.next_row table named entries in
        ruled_tidy table draws (insert_causes (env_in state binds) cs (on table) draws new entries) (insert_effect new) (insert_tidy table named entries draws (may_write (on table) (insert table named entries) free refl))
    executed_tidy (update table changes condition) free = ruled_tidy table [] (update_causes (env_in state binds) (columns_of state.start.schema.tables table) (on table) changes condition) (update_effect (env_in state binds) (on table) changes condition) (update_tidy table changes condition (may_write (on table) (update table changes condition) free refl))
    executed_tidy (delete table condition) free = ruled_tidy table [] (delete_causes (env_in state binds) (on table) condition) (delete_effect (env_in state binds) (on table) condition) (delete_tidy table condition (may_write (on table) (delete table condition) free refl))
    executed_tidy commit free = commits state is session (executed state.start.schema (view_of state session None) state.next_values state.next_row (env_in state binds) commit) refl refl refl refl
    executed_tidy rollback free = ends state is session (executed state.start.schema (view_of state session None) state.next_values state.next_row (env_in state binds) rollback) refl refl refl refl
    executed_tidy set_read_only free = stays state is session (executed state.start.schema (view_of state session None) state.next_values state.next_row (env_in state binds) set_read_only) refl refl refl refl (λ reads.
        let view = view_of state session None in
        let idle = not_under_way view set_read_only free refl in
        record { own = nothing_yet view idle; kept = subst (AllByRecursion (λ (x : Savepoint). x.own ≡ nothing)) (sym (no_marks view idle)) tt })
    executed_tidy (savepoint name) free =
        let mine = session_at state session in
        let point : Savepoint = record { name = name; own = mine.own } in
        turns state is session (marked (view_of state session None) name) (inl refl) (marked_choice mine name) (nested_marked mine.savepoints point (is.nested session)) refl refl (λ reads.
        let has = only_reads None reads in
        (has.own, each_with (λ (x : Savepoint). x.own ≡ nothing) mine.savepoints point has.kept has.own))
    executed_tidy (rollback_to name) free =
        let mine = session_at state session in
        turns state is session (gone_back (view_of state session None) name) (back_choice mine name) (back_kept mine name) (nested_back name mine.savepoints mine.own (is.nested session)) refl refl (λ reads.
        let has = only_reads None reads in
        (own_at_one (λ (own : Transaction). own ≡ nothing) name mine.own mine.savepoints has.own has.kept, each_up_to (λ (x : Savepoint). x.own ≡ nothing) name mine.savepoints has.kept))

  answer_tidy : (request : Request) → IsTidy (after state session (answer state.start.schema (view_of state session (table_in request)) state.next_values state.next_row request))
  answer_tidy (connect service) =
      let view = view_of state session None in
      let a = record (unchanged view (reply_of Connected [] None)) { rights = service } in
      unless_tidy None [] (connect_fault view service) a (λ free. stays state is session a refl refl refl refl (only_reads None))
  answer_tidy disconnect =
      let view = view_of state session None in
      unless_tidy None [] (disconnect_fault view) (ended None Disconnected) (λ free. ends state is session (ended None Disconnected) refl refl refl refl)
  answer_tidy unreadable = refused_tidy None [] Syntax
  answer_tidy (unsound table fault) = refused_tidy table [] (if is_none (view_of state session table).rights then NotConnected else fault)
  answer_tidy (statement plan binds) =
      let view = view_of state session (table_of plan) in
      unless_tidy (table_of plan) [] (statement_fault view plan) (executed state.start.schema view state.next_values state.next_row (env_in state binds) plan) (executed_tidy binds plan)

  pub step_tidy : (call : Call) → IsTidy (step state session call)
  step_tidy call = answer_tidy (request_of state.start.schema call)
