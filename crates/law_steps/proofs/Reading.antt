-- What a transaction that only reads sees.
use Rattle.std.proofs.Common.{◌≡◌, ◌∙◌, ◌≤◌, inl, inr, ℕ, Bool, true, false, List, [], ◌∷◌, length, map, set, refl, sym, ap, subst, arith}
use Rattle.std.proofs.lemmas.Bool.{cases_eq, cases_lt}
use Rattle.std.proofs.lemmas.List.{get_or_past}
use Rattle.std.specs.Prelude.{◌&&◌, ◌||◌, if◌then◌else◌, is_none, is_some, not, IfSome, IsSomeAnd, Option, None, Some}
use Rattle.std.specs.List.{AllByRecursion}
use Rattle.desk_values.specs.declared.call.Call.{Call}
use Rattle.desk_values.specs.declared.call.Reply.{Reply}
use Rattle.desk_values.specs.declared.value.Image.{Image}
use Rattle.desk_values.specs.declared.value.Value.{Value}
use Rattle.desk_values.specs.declared.fault.Fault.{Fault}
use Rattle.desk_values.specs.declared.fault.Fault.TheVariants.{AlreadyConnected, NotConnected, ReadOnly, UnderWay, UnknownService}
use Rattle.desk_schema.specs.declared.schema.Rights.{Rights}
use Rattle.desk_schema.specs.Schema.{SchemaView, columns_of}
use Rattle.desk_schema.specs.Start.{StartView}
use Rattle.sql_tree.specs.declared.tree.Key.{Key}
use Rattle.sql_tree.specs.Plain.{Asked, Term, Plan, select, next, insert, update, delete, commit, rollback, set_read_only, savepoint, rollback_to}
use Rattle.server_words.specs.declared.session.Savepoint.{Savepoint}
use Rattle.server_words.specs.declared.session.Session.{Session}
use Rattle.server_words.specs.declared.session.Transaction.{Transaction}
use Rattle.server_words.specs.Answer.{Answer, answer, delete_causes, delete_effect, done, ended, executed, insert_causes, insert_effect, new_row, reply_of, ruled, select_causes, select_effect, unchanged, unless, update_causes, update_effect}
use Rattle.server_words.specs.declared.causes.Causes.{Causes}
use Rattle.server_words.specs.declared.effect.Effect.{Effect}
use Rattle.server_words.specs.Causes.{connect_fault, disconnect_fault, is_empty, is_read_only, is_under_way, needs_write_access, ranked, statement_fault}
use Rattle.server_words.specs.Draws.{draws_of}
use Rattle.desk_values.specs.declared.call.Outcome.TheVariants.{Connected, Disconnected, Marked}
use Rattle.server_words.specs.Found.{Environment}
use Rattle.server_words.specs.Request.{Request, connect, disconnect, unreadable, unsound, statement, request_of, table_in}
use Rattle.server_words.specs.State.{State, disconnected, opening, session_at}
use Rattle.server_words.specs.Step.{answer_in, committed_in, reply_in, run, session_after, snapshot_after, step, with_commit}
use Rattle.server_words.specs.Rows.{lay, lay_all, of_table}
use Rattle.server_words.specs.View.{View, commits_seen, others, plain_view, rows_seen, view_of, with_table}
use Rattle.server_words.specs.Savepoints.{own_at, up_to}
use Rattle.server_words.proofs.Marks.{each_up_to, each_with, own_at_one}
use Rattle.server_words.proofs.Members.{each_repeated, each_set, each_weaker, one_of}
use Rattle.law_steps.specs.Reading.{IsLeftButMarks, IsReading, KeepsWhatItHas, MarkedSessionsRead, OnlyMarkedSessionsRead, GoesBack, Requests, ReadersAreAnsweredTheSame, ReadersAreLeft, ReadersSeeTheSame, SnapshotsAreWithin, ends_transaction, rows_in}
use Rattle.law_steps.proofs.Going.{GoesOn}
use Rattle.law_steps.proofs.Leaving.{beyond_at, commits_longer, left_at, others_are_left, runs_add, snapshot_stays, taken_in_front, view_own, view_reads, view_rights}

-- ---- a statement of a session that reads leaves it as it was

-- each of the savepoints keeps just this
abbrev AllKeep : Transaction → List Savepoint → Type 0
AllKeep own savepoints = AllByRecursion (λ (x : Savepoint). x.own ≡ own) savepoints

-- the answer leaves the session as it was, but for its savepoints, which keep what it has
record Keeps (view : View) (a : Answer) : Type 0 where
  rights : a.rights ≡ view.rights
  reads_only : a.reads_only ≡ view.reads_only
  own : a.own ≡ view.own
  kept : AllKeep view.own a.savepoints

module _ (view : View) (kept : AllKeep view.own view.savepoints) where
  abbrev KeepsOn : Request → Answer → Type 0
  KeepsOn request a = GoesOn request a → Keeps view a

  unless_on : (request : Request) (draws : List Value) (fault : Option Fault) (a : Answer) → KeepsOn request a → KeepsOn request (unless view draws fault a)
  unless_on request draws None a keeps = keeps
  unless_on request draws (Some fault) a keeps = λ goes. record { rights = refl; reads_only = refl; own = refl; kept = kept }

  -- where there is a fault, whatever the answer else
  forbidden : (request : Request) (draws : List Value) (fault : Option Fault) (a : Answer) → is_some fault ≡ true → KeepsOn request (unless view draws fault a)
  forbidden request draws None a some = absurd (let never : false ≡ true = some in cc)
  forbidden request draws (Some fault) a some = λ goes. record { rights = refl; reads_only = refl; own = refl; kept = kept }

  at_one : (name : List ℕ) → own_at name view.own view.savepoints ≡ view.own
  at_one name = own_at_one (λ (own : Transaction). own ≡ view.own) name view.own view.savepoints refl kept

module _ (view : View) (reads : view.reads_only ≡ true) where
  told_first : (none needs marks : Bool) (last : Option Fault) → needs ≡ true → is_some (if none then Some NotConnected else if needs && (marks || view.reads_only) then Some ReadOnly else last) ≡ true
  told_first true needs marks last is = refl
  told_first false needs true last is = rw is refl
  told_first false needs false last is = rw (is, reads) refl

  no_writing : (plan : Plan ℕ) → needs_write_access plan ≡ true → is_some (statement_fault view plan) ≡ true
  unfolding statement_fault
  no_writing plan needs = told_first (is_none view.rights) (needs_write_access plan) (is_read_only view.rights) _ needs

  module _ (kept : AllKeep view.own view.savepoints) (schema : SchemaView) (next_values : List ℕ) (row : ℕ) (env : Environment) (binds : List Value) where
    abbrev does : Plan ℕ → Answer
    does plan = executed schema view next_values row env plan

    abbrev PlanKeeps : Plan ℕ → Type 0
    PlanKeeps plan = KeepsOn view kept (statement plan binds) (unless view [] (statement_fault view plan) (does plan))

    writes : (plan : Plan ℕ) → needs_write_access plan ≡ true → PlanKeeps plan
    writes plan needs = forbidden view kept (statement plan binds) [] (statement_fault view plan) (does plan) (no_writing plan needs)

    allowed : (plan : Plan ℕ) → KeepsOn view kept (statement plan binds) (does plan) → PlanKeeps plan
    allowed plan = unless_on view kept (statement plan binds) [] (statement_fault view plan) (does plan)

    planned : (plan : Plan ℕ) → PlanKeeps plan
    planned (select table asked condition keys true) = writes (select table asked condition keys true) refl
    planned (select table asked condition keys false) =
        let plan = select table asked condition keys false in
        allowed plan
        (unless_on view kept (statement plan binds) [] (ranked (select_causes env view asked condition false)) (done table view [] (select_effect env view asked condition keys false)) (λ goes. record { rights = refl; reads_only = refl; own = refl; kept = kept }))
    planned (next sequence) = writes (next sequence) refl
    planned (insert table named entries) = writes (insert table named entries) refl
    planned (update table changes condition) = writes (update table changes condition) refl
    planned (delete table condition) = writes (delete table condition) refl
    planned commit = allowed commit (λ goes. absurd (let back = goes refl in let never : statement commit binds ≡ statement (rollback_to back.0) back.1 = back.2 in cc))
    planned rollback = allowed rollback (λ goes. absurd (let back = goes refl in let never : statement rollback binds ≡ statement (rollback_to back.0) back.1 = back.2 in cc))
    planned (savepoint name) = allowed (savepoint name) (λ goes. record {
      rights = refl;
      reads_only = refl;
      own = refl;
      kept = each_with (λ (x : Savepoint). x.own ≡ view.own) view.savepoints (record { name = name; own = view.own }) kept refl;
    })
    planned (rollback_to name) = allowed (rollback_to name) (λ goes. record {
      rights = refl;
      reads_only = refl;
      own = at_one view kept name;
      kept = each_up_to (λ (x : Savepoint). x.own ≡ view.own) name view.savepoints kept;
    })
    planned set_read_only = allowed set_read_only (λ goes. record { rights = refl; reads_only = sym reads; own = refl; kept = kept })

  module _ (kept : AllKeep view.own view.savepoints) (connected : is_some view.rights ≡ true) (schema : SchemaView) (next_values : List ℕ) (row : ℕ) where
    already : (service : Option Rights) → is_some (connect_fault view service) ≡ true
    already service = rw connected refl

    answered : (request : Request) → KeepsOn view kept request (answer schema view next_values row request)
    answered (connect service) = forbidden view kept (connect service) [] (connect_fault view service) (record (unchanged view (reply_of Connected [] None)) { rights = service }) (already service)
    answered disconnect = unless_on view kept disconnect [] (disconnect_fault view) (ended None Disconnected)
        (λ goes. absurd (let back = goes refl in let never : disconnect ≡ statement (rollback_to back.0) back.1 = back.2 in cc))
    answered unreadable = λ goes. record { rights = refl; reads_only = refl; own = refl; kept = kept }
    answered (unsound table fault) = λ goes. record { rights = refl; reads_only = refl; own = refl; kept = kept }
    answered (statement plan binds) = planned kept schema next_values row (record { level = schema.level; binds = binds }) binds plan

-- ---- a step

some_at : (snapshot : Option ℕ) (P : ℕ → Type 0) → IsSomeAnd snapshot P → is_some snapshot ≡ true
some_at None P is = absurd is
some_at (Some n) P is = refl

left_as_it_was : (before after : Session) → after ≡ before → IsLeftButMarks before after
left_as_it_was before after same = record { rights = ap (λ (s : Session). s.rights) same; snapshot = ap (λ (s : Session). s.snapshot) same; own = ap (λ (s : Session). s.own) same }

-- it is left so, and its savepoints keep what it has
abbrev ReadsOn : Session → Session → Type 0
ReadsOn before after = IsLeftButMarks before after × KeepsWhatItHas after

module _ (state : State) (session : ℕ) (is : IsReading state session) where
  unmoved : (after : Session) → after ≡ session_at state session → ReadsOn (session_at state session) after
  unmoved after same = (left_as_it_was (session_at state session) after same, subst KeepsWhatItHas (sym same) is.kept)

  view_keeps : (table : Option ℕ) → AllKeep (view_of state session table).own (view_of state session table).savepoints
  view_keeps None = is.kept
  view_keeps (Some table) = is.kept

  own_step : (call : Call) → (ends_transaction (reply_in state session call).outcome ≡ true → GoesBack state call) → ReadsOn (session_at state session) (session_at (step state session call) session)
  own_step call goes =
      let request = request_of state.start.schema call in
      let table = table_in request in
      let a = answer_in state session call in
      let view = view_of state session table in
      let reads : view.reads_only ≡ true = view_reads state session table ∙ some_at (session_at state session).snapshot _ is.commit in
      let connected : is_some view.rights ≡ true = ap is_some (view_rights state session table) ∙ is.connected in
      let keeps : Keeps view a = answered view reads (view_keeps table) connected state.start.schema state.next_values state.next_row request goes in
      let before = session_at state session in
      elim (cases_lt session (length state.sessions)) [
        | inl within ↦ (
            let left = left_at state session call within in (
              record {
                rights = ap (λ (s : Session). s.rights) left ∙ keeps.rights ∙ view_rights state session table;
                snapshot = ap (λ (s : Session). s.snapshot) left ∙ ap (λ (b : Bool). snapshot_after b before.snapshot (length state.commits)) (keeps.reads_only ∙ view_reads state session table)
                    ∙ snapshot_stays before.snapshot (length state.commits);
                own = ap (λ (s : Session). s.own) left ∙ keeps.own ∙ view_own state session table;
              },
              subst KeepsWhatItHas (sym left) (subst (λ (own : Transaction). AllKeep own a.savepoints) (sym keeps.own) keeps.kept),
            ))
        | inr past ↦ unmoved (session_at (step state session call) session) (beyond_at state session call past ∙ sym (get_or_past state.sessions session disconnected past))
      ]

  any_step : (by : ℕ) (call : Call) → (by ≡ session → ends_transaction (reply_in state by call).outcome ≡ true → GoesBack state call) → ReadsOn (session_at state session) (session_at (step state by call) session)
  any_step by call goes = elim (cases_eq session by) [
    | inl same ↦ subst (λ (s : ℕ). ReadsOn (session_at state session) (session_at (step state s call) session)) same
        (own_step call (subst (λ (s : ℕ). ends_transaction (reply_in state s call).outcome ≡ true → GoesBack state call) (sym same) (goes (sym same))))
    | inr apart ↦ unmoved (session_at (step state by call) session) (others_are_left state by session call apart)
  ]

within_more : (snapshot : Option ℕ) (few many : ℕ) → few ≤ many → IsSomeAnd snapshot (λ n. n ≤ few) → IsSomeAnd snapshot (λ n. n ≤ many)
within_more None few many le is = is
within_more (Some n) few many le is = omega (arith, is, le)

reads_on : (state : State) (session by : ℕ) (call : Call) → IsReading state session → ReadsOn (session_at state session) (session_at (step state by call) session) → IsReading (step state by call) session
reads_on state session by call is same = record {
  connected = ap is_some same.0.rights ∙ is.connected;
  commit = subst (λ (snapshot : Option ℕ). IsSomeAnd snapshot (λ n. n ≤ length (step state by call).commits)) (sym same.0.snapshot)
      (within_more (session_at state session).snapshot (length state.commits) (length (step state by call).commits) (commits_longer state.commits (committed_in (reply_in state by call).outcome)) is.commit);
  kept = same.1;
}

pub readers_are_left : ReadersAreLeft
readers_are_left state session [] is goes = (left_as_it_was (session_at state session) (session_at state session) refl, is)
readers_are_left state session (call ∷ calls) is goes =
    let same = any_step state session is call.0 call.1 goes.0 in
    let rest = readers_are_left (step state call.0 call.1) session calls (reads_on state session call.0 call.1 is same) goes.1 in
    (record { rights = rest.0.rights ∙ same.0.rights; snapshot = rest.0.snapshot ∙ same.0.snapshot; own = rest.0.own ∙ same.0.own }, rest.1)

-- ---- what is seen

seen_in_front : (snapshot : Option ℕ) (commits : List (List Image)) (images : List Image) → IsSomeAnd snapshot (λ n. n ≤ length commits) → commits_seen snapshot (with_commit commits images) ≡ commits_seen snapshot commits
seen_in_front None commits images is = absurd is
seen_in_front (Some n) commits images is = taken_in_front n commits images is

rows_stay : (state : State) (session by : ℕ) (call : Call) (table : ℕ) → IsReading state session → IsLeftButMarks (session_at state session) (session_at (step state by call) session) → rows_in (step state by call) session table ≡ rows_in state session table
rows_stay state session by call table is same =
    let before = session_at state session in
    let images = committed_in (reply_in state by call).outcome in
    ap (λ (snapshot : Option ℕ). rows_seen state.start.rows (with_commit state.commits images) (record (session_at (step state by call) session) { snapshot = snapshot }) table) same.snapshot
    ∙ ap (λ (own : Transaction). rows_seen state.start.rows (with_commit state.commits images) (record before { own = own }) table) same.own
    ∙ ap (λ (commits : List (List Image)). lay (lay_all (of_table table state.start.rows) (map (of_table table) commits)) (of_table table before.own.changes)) (seen_in_front before.snapshot state.commits images is.commit)

pub readers_see_the_same : ReadersSeeTheSame
readers_see_the_same state session table [] is goes = refl
readers_see_the_same state session table (call ∷ calls) is goes =
    let same = any_step state session is call.0 call.1 goes.0 in
    readers_see_the_same (step state call.0 call.1) session table calls (reads_on state session call.0 call.1 is same) goes.1
    ∙ rows_stay state session call.0 call.1 table is same.0

-- ---- what is answered

unless_same : (view other : View) (draws : List Value) (fault : Option Fault) (a b : Answer) → a.reply ≡ b.reply → (unless view draws fault a).reply ≡ (unless other draws fault b).reply
unless_same view other draws None a b same = same
unless_same view other draws (Some fault) a b same = refl

module _ (table : ℕ) (asked : Asked ℕ) (condition : Option (Term ℕ)) (keys : List (Key ℕ)) (binds : List Value) where
  abbrev plain : Plan ℕ
  plain = select table asked condition keys false

  -- the reply to a SELECT that locks no row, by what it depends on
  abbrev selected : SchemaView → Option Rights → Transaction → List Image → Reply
  selected schema rights own rows =
      (answer schema (with_table (plain_view (record { rights = rights; snapshot = None; own = own; savepoints = [] })) [] table rows) [] 0 (statement plain binds)).reply

  alone : (schema : SchemaView) (session : Session) (rows : List Image) (beside : List Session) (next_values : List ℕ) (row : ℕ) → (answer schema (with_table (plain_view session) beside table rows) next_values row (statement plain binds)).reply ≡ selected schema session.rights session.own rows
  unfolding statement_fault
  alone schema session rows beside next_values row =
      let env : Environment = record { level = schema.level; binds = binds } in
      let view = with_table (plain_view session) beside table rows in
      let other = with_table (plain_view (record { rights = session.rights; snapshot = None; own = session.own; savepoints = [] })) [] table rows in
      unless_same view other [] (statement_fault view plain) (executed schema view next_values row env plain) (executed schema other [] 0 env plain)
      (unless_same view other [] (ranked (select_causes env view asked condition false)) (done table view [] (select_effect env view asked condition keys false)) (done table other [] (select_effect env other asked condition keys false)) refl)

  selects : (state : State) (session : ℕ) (call : Call) → Requests state call plain binds → reply_in state session call ≡ selected state.start.schema (session_at state session).rights (session_at state session).own (rows_in state session table)
  selects state session call asks =
      subst (λ (r : Request). (answer state.start.schema (view_of state session (table_in r)) state.next_values state.next_row r).reply ≡ selected state.start.schema (session_at state session).rights (session_at state session).own (rows_in state session table)) (sym asks)
      (alone state.start.schema (session_at state session) (rows_in state session table) (others state.sessions session) state.next_values state.next_row)

pub readers_are_answered_the_same : ReadersAreAnsweredTheSame
readers_are_answered_the_same state session calls call table asked condition keys binds is goes asks =
    let new = run state calls in
    let start : new.start ≡ state.start = (runs_add state calls).start in
    let still : Requests new call (plain table asked condition keys binds) binds = subst (λ (s : StartView). request_of s.schema call ≡ statement (plain table asked condition keys binds) binds) (sym start) asks in
    let left = (readers_are_left state session calls is goes).0 in
    selects table asked condition keys binds new session call still
    ∙ ap (λ (s : StartView). selected table asked condition keys binds s.schema (session_at new session).rights (session_at new session).own (rows_in new session table)) start
    ∙ ap (λ (rights : Option Rights). selected table asked condition keys binds state.start.schema rights (session_at new session).own (rows_in new session table)) left.rights
    ∙ ap (λ (own : Transaction). selected table asked condition keys binds state.start.schema (session_at state session).rights own (rows_in new session table)) left.own
    ∙ ap (λ (rows : List Image). selected table asked condition keys binds state.start.schema (session_at state session).rights (session_at state session).own rows) (readers_see_the_same state session table calls is goes)
    ∙ sym (selects table asked condition keys binds state session call asks)

-- ---- every snapshot is one of a session that reads

abbrev ReadsConnected : Answer → Type 0
ReadsConnected a = a.reads_only ≡ true → is_some a.rights ≡ true

unless_when : (view : View) (draws : List Value) (fault : Option Fault) (a : Answer) → (view.reads_only ≡ true → is_some view.rights ≡ true) → (fault ≡ None → ReadsConnected a) → ReadsConnected (unless view draws fault a)
unless_when view draws None a before keeps = keeps refl
unless_when view draws (Some fault) a before keeps = before

rights_there : (rights : Option Rights) (rest : Option Fault) → (if is_none rights then Some NotConnected else rest) ≡ None → is_some rights ≡ true
rights_there None rest is = absurd (cc)
rights_there (Some rights) rest is = refl

pub has_rights : (view : View) (plan : Plan ℕ) → statement_fault view plan ≡ None → is_some view.rights ≡ true
unfolding statement_fault
has_rights view plan is = rights_there view.rights _ is

service_there : (rights service : Option Rights) → (if is_some rights then Some AlreadyConnected else if is_none service then Some UnknownService else None) ≡ None → is_some service ≡ true
service_there None None is = absurd (cc)
service_there None (Some service) is = refl
service_there (Some rights) service is = absurd (cc)

module _ (schema : SchemaView) (view : View) (before : view.reads_only ≡ true → is_some view.rights ≡ true) (next_values : List ℕ) (row : ℕ) where
  ruled_connected : (table : ℕ) (draws : List Value) (causes : Causes) (effect : Effect) → is_some view.rights ≡ true → ReadsConnected (ruled table view draws causes effect)
  ruled_connected table draws causes effect there = unless_when view draws (ranked causes) (done table view draws effect) before (λ none reads. there)

  executed_connected : (env : Environment) (plan : Plan ℕ) → is_some view.rights ≡ true → ReadsConnected (executed schema view next_values row env plan)
  executed_connected env (select table asked condition keys for_update) there = ruled_connected table [] (select_causes env view asked condition for_update) (select_effect env view asked condition keys for_update) there
  executed_connected env (next sequence) there = λ reads. there
  executed_connected env (insert table named entries) there =
      let draws = draws_of (insert table named entries) next_values in
      let new = new_row env (columns_of schema.tables table) draws row table named entries in
      ruled_connected table draws (insert_causes env (columns_of schema.tables table) view draws new entries) (insert_effect new) there
  executed_connected env (update table changes condition) there = ruled_connected table [] (update_causes env (columns_of schema.tables table) view changes condition) (update_effect env view changes condition) there
  executed_connected env (delete table condition) there = ruled_connected table [] (delete_causes env view condition) (delete_effect env view condition) there
  executed_connected env commit there = λ reads. there
  executed_connected env rollback there = λ reads. there
  executed_connected env set_read_only there = λ reads. there
  executed_connected env (savepoint name) there = λ reads. there
  executed_connected env (rollback_to name) there = λ reads. there

  answer_connected : (request : Request) → ReadsConnected (answer schema view next_values row request)
  answer_connected (connect service) = unless_when view [] (connect_fault view service) (record (unchanged view (reply_of Connected [] None)) { rights = service }) before (λ none reads. service_there view.rights service none)
  answer_connected disconnect = unless_when view [] (disconnect_fault view) (ended None Disconnected) before (λ none reads. absurd (cc))
  answer_connected unreadable = before
  answer_connected (unsound table fault) = before
  answer_connected (statement plan binds) =
      let env : Environment = record { level = schema.level; binds = binds } in
      unless_when view [] (statement_fault view plan) (executed schema view next_values row env plan) before (λ none. executed_connected env plan (has_rights view plan none))

-- ---- and keeps at its savepoints what it has

first_false : (a b c d e : Bool) → (a || b || c || d || e) ≡ false → a ≡ false
first_false true b c d e is = absurd (let never : true ≡ false = is in cc)
first_false false b c d e is = refl

last_false : (a b c d e : Bool) → (a || b || c || d || e) ≡ false → e ≡ false
last_false true b c d e is = absurd (let never : true ≡ false = is in cc)
last_false false true c d e is = absurd (let never : true ≡ false = is in cc)
last_false false false true d e is = absurd (let never : true ≡ false = is in cc)
last_false false false false true e is = absurd (let never : true ≡ false = is in cc)
last_false false false false false e is = is

not_under_way : (none under : Bool) → (if none then Some NotConnected else if under then Some UnderWay else None) ≡ None → under ≡ false
not_under_way true under is = absurd (cc)
not_under_way false true is = absurd (cc)
not_under_way false false is = refl

marks_first : (view : View) → statement_fault view set_read_only ≡ None → is_under_way view ≡ false
unfolding statement_fault
marks_first view is = not_under_way (is_none view.rights) (is_under_way view) is

no_savepoint : (xs : List Savepoint) → not (is_empty xs) ≡ false → xs ≡ []
no_savepoint [] is = refl
no_savepoint (x ∷ xs) is = absurd (let never : true ≡ false = is in cc)

marks_none : (view : View) → statement_fault view set_read_only ≡ None → view.savepoints ≡ []
marks_none view is = no_savepoint view.savepoints (last_false view.reads_only _ _ _ (not (is_empty view.savepoints)) (marks_first view is))

abbrev ReadsKept : Answer → Type 0
ReadsKept a = a.reads_only ≡ true → AllKeep a.own a.savepoints

module _ (schema : SchemaView) (view : View) (before : view.reads_only ≡ true → AllKeep view.own view.savepoints) (next_values : List ℕ) (row : ℕ) where
  unless_kept : (draws : List Value) (fault : Option Fault) (a : Answer) → (fault ≡ None → ReadsKept a) → ReadsKept (unless view draws fault a)
  unless_kept draws None a keeps = keeps refl
  unless_kept draws (Some fault) a keeps = before

  -- what writes is not done where the transaction only reads
  never_writes : (plan : Plan ℕ) → needs_write_access plan ≡ true → statement_fault view plan ≡ None → view.reads_only ≡ true → ⊥
  never_writes plan needs none reads = (let never : false ≡ true = sym (ap is_some none) ∙ no_writing view reads plan needs in cc)

  ruled_kept : (plan : Plan ℕ) (table : ℕ) (draws : List Value) (causes : Causes) (effect : Effect) → needs_write_access plan ≡ true → statement_fault view plan ≡ None → ReadsKept (ruled table view draws causes effect)
  ruled_kept plan table draws causes effect needs none = unless_kept draws (ranked causes) (done table view draws effect) (λ fits reads. absurd (never_writes plan needs none reads))

  executed_kept : (env : Environment) (plan : Plan ℕ) → statement_fault view plan ≡ None → ReadsKept (executed schema view next_values row env plan)
  executed_kept env (select table asked condition keys true) none =
      ruled_kept (select table asked condition keys true) table [] (select_causes env view asked condition true) (select_effect env view asked condition keys true) refl none
  executed_kept env (select table asked condition keys false) none =
      unless_kept [] (ranked (select_causes env view asked condition false)) (done table view [] (select_effect env view asked condition keys false)) (λ fits. before)
  executed_kept env (next sequence) none = before
  executed_kept env (insert table named entries) none =
      let draws = draws_of (insert table named entries) next_values in
      let new = new_row env (columns_of schema.tables table) draws row table named entries in
      ruled_kept (insert table named entries) table draws (insert_causes env (columns_of schema.tables table) view draws new entries) (insert_effect new) refl none
  executed_kept env (update table changes condition) none =
      ruled_kept (update table changes condition) table [] (update_causes env (columns_of schema.tables table) view changes condition) (update_effect env view changes condition) refl none
  executed_kept env (delete table condition) none = ruled_kept (delete table condition) table [] (delete_causes env view condition) (delete_effect env view condition) refl none
  executed_kept env commit none = λ reads. tt
  executed_kept env rollback none = λ reads. tt
  executed_kept env set_read_only none = λ reads. subst (AllKeep view.own) (sym (marks_none view none)) tt
  executed_kept env (savepoint name) none = λ reads. each_with (λ (x : Savepoint). x.own ≡ view.own) view.savepoints (record { name = name; own = view.own }) (before reads) refl
  executed_kept env (rollback_to name) none = λ reads.
      subst (λ (own : Transaction). AllKeep own (up_to name view.savepoints)) (sym (at_one view (before reads) name)) (each_up_to (λ (x : Savepoint). x.own ≡ view.own) name view.savepoints (before reads))

  answer_kept : (request : Request) → ReadsKept (answer schema view next_values row request)
  answer_kept (connect service) = unless_kept [] (connect_fault view service) (record (unchanged view (reply_of Connected [] None)) { rights = service }) (λ none. before)
  answer_kept disconnect = unless_kept [] (disconnect_fault view) (ended None Disconnected) (λ none reads. tt)
  answer_kept unreadable = before
  answer_kept (unsound table fault) = before
  answer_kept (statement plan binds) =
      let env : Environment = record { level = schema.level; binds = binds } in
      unless_kept [] (statement_fault view plan) (executed schema view next_values row env plan) (executed_kept env plan)

-- the session reads at one of so many commits, if at any, and is connected then, and has what it had at its savepoints
record IsWithin (commits : ℕ) (session : Session) : Type 0 where
  commit : IfSome session.snapshot (λ n. n ≤ commits)
  connected : is_some session.snapshot ≡ true → is_some session.rights ≡ true
  kept : is_some session.snapshot ≡ true → KeepsWhatItHas session

commit_after : (reads : Bool) (snapshot : Option ℕ) (commits : ℕ) → IfSome snapshot (λ n. n ≤ commits) → IfSome (snapshot_after reads snapshot commits) (λ n. n ≤ commits)
commit_after false snapshot commits is = tt
commit_after true None commits is = omega arith
commit_after true (Some n) commits is = is

reads_after : (reads : Bool) (snapshot : Option ℕ) (commits : ℕ) → is_some (snapshot_after reads snapshot commits) ≡ true → reads ≡ true
reads_after false snapshot commits is = absurd (cc)
reads_after true snapshot commits is = refl

within_less : (snapshot : Option ℕ) (few many : ℕ) → few ≤ many → IfSome snapshot (λ n. n ≤ few) → IfSome snapshot (λ n. n ≤ many)
within_less None few many le is = tt
within_less (Some n) few many le is = omega (arith, is, le)

weaker_within : (few many : ℕ) → few ≤ many → (session : Session) → IsWithin few session → IsWithin many session
weaker_within few many le session is = record { commit = within_less session.snapshot few many le is.commit; connected = is.connected; kept = is.kept }

nobody_within : IsWithin 0 disconnected
nobody_within = record { commit = tt; connected = λ never. absurd (cc); kept = λ some. tt }

abbrev AreWithin : State → Type 0
AreWithin state = AllByRecursion (IsWithin (length state.commits)) state.sessions

module _ (state : State) (are : AreWithin state) where
  at_session : (session : ℕ) → IsWithin (length state.commits) (session_at state session)
  at_session session = one_of (IsWithin (length state.commits)) state.sessions session disconnected (weaker_within 0 (length state.commits) (omega arith) disconnected nobody_within) are

  view_connected : (session : ℕ) (table : Option ℕ) → (view_of state session table).reads_only ≡ true → is_some (view_of state session table).rights ≡ true
  view_connected session table reads = ap is_some (view_rights state session table) ∙ (at_session session).connected (sym (view_reads state session table) ∙ reads)

  view_kept : (session : ℕ) (table : Option ℕ) → (view_of state session table).reads_only ≡ true → AllKeep (view_of state session table).own (view_of state session table).savepoints
  view_kept session None reads = (at_session session).kept reads
  view_kept session (Some table) reads = (at_session session).kept reads

  within_step : (session : ℕ) (call : Call) → AreWithin (step state session call)
  within_step session call =
      let request = request_of state.start.schema call in
      let a = answer_in state session call in
      let before = session_at state session in
      let commits = length state.commits in
      let left = session_after before commits a in
      let now : IsWithin commits left = record {
        commit = commit_after a.reads_only before.snapshot commits (at_session session).commit;
        connected = λ some. answer_connected state.start.schema (view_of state session (table_in request)) (view_connected session (table_in request)) state.next_values state.next_row request (reads_after a.reads_only before.snapshot commits some);
        kept = λ some. answer_kept state.start.schema (view_of state session (table_in request)) (view_kept session (table_in request)) state.next_values state.next_row request (reads_after a.reads_only before.snapshot commits some);
      } in
      each_weaker (IsWithin commits) (IsWithin (length (step state session call).commits)) (weaker_within commits (length (step state session call).commits) (commits_longer state.commits (committed_in a.reply.outcome)))
      (set state.sessions session left) (each_set (IsWithin commits) state.sessions session left now are)

within_run : (state : State) (calls : List (ℕ × Call)) → AreWithin state → AreWithin (run state calls)
within_run state [] are = are
within_run state (call ∷ calls) are = within_run (step state call.0 call.1) calls (within_step state are call.0 call.1)

some_here : (snapshot : Option ℕ) (commits n : ℕ) → snapshot ≡ Some n → IfSome snapshot (λ k. k ≤ commits) → IsSomeAnd snapshot (λ k. k ≤ commits)
some_here None commits n is le = cc
some_here (Some k) commits n is le = le

pub snapshots_are_within : SnapshotsAreWithin
snapshots_are_within start calls session n is =
    let state = run (opening start) calls in
    let here = at_session state (within_run (opening start) calls (each_repeated (IsWithin 0) 64 disconnected nobody_within)) session in
    record { connected = here.connected (ap is_some is); commit = some_here (session_at state session).snapshot (length state.commits) n is here.commit; kept = here.kept (ap is_some is) }

-- ---- how a transaction comes to read

-- the answer marks a session that is connected and did not read before
record Begins (view : View) (a : Answer) : Type 0 where
  reads : a.reads_only ≡ true
  before : view.reads_only ≡ false
  connected : is_some a.rights ≡ true
  unmarked : a.savepoints ≡ []

abbrev BeginsIfMarked : View → Answer → Type 0
BeginsIfMarked view a = a.reply.outcome ≡ Marked → Begins view a

unless_marked : (view : View) (draws : List Value) (fault : Option Fault) (a : Answer) → (fault ≡ None → BeginsIfMarked view a) → BeginsIfMarked view (unless view draws fault a)
unless_marked view draws None a begins = begins refl
unless_marked view draws (Some fault) a begins = λ never. absurd (cc)

marks_open : (view : View) → statement_fault view set_read_only ≡ None → view.reads_only ≡ false
marks_open view is = first_false view.reads_only _ _ _ (not (is_empty view.savepoints)) (marks_first view is)

-- the answer to SET TRANSACTION READ ONLY
set_marked : (schema : SchemaView) (view : View) (next_values : List ℕ) (row : ℕ) (binds : List Value) → BeginsIfMarked view (answer schema view next_values row (statement set_read_only binds))
set_marked schema view next_values row binds =
    let env : Environment = record { level = schema.level; binds = binds } in
    unless_marked view [] (statement_fault view set_read_only) (executed schema view next_values row env set_read_only)
    (λ none is. record { reads = refl; before = marks_open view none; connected = has_rights view set_read_only none; unmarked = marks_none view none })

begun : (reads : Bool) (snapshot : Option ℕ) (commits : ℕ) → reads ≡ true → is_some snapshot ≡ false → snapshot_after reads snapshot commits ≡ Some commits
begun true None commits is before = refl
begun true (Some n) commits is before = absurd (let never : true ≡ false = before in cc)
begun false snapshot commits is before = absurd (let never : false ≡ true = is in cc)

pub marked_sessions_read : MarkedSessionsRead
marked_sessions_read state session call binds within asks is =
    let request = request_of state.start.schema call in
    let table = table_in request in
    let view = view_of state session table in
    let a = answer_in state session call in
    let new = step state session call in
    let before = session_at state session in
    let begins : Begins view a =
    subst (λ (r : Request). BeginsIfMarked (view_of state session (table_in r)) (answer state.start.schema (view_of state session (table_in r)) state.next_values state.next_row r)) (sym asks)
    (set_marked state.start.schema (view_of state session None) state.next_values state.next_row binds) is in
    let left = left_at state session call within in
    let snapshot : (session_at new session).snapshot ≡ Some (length state.commits) =
    ap (λ (s : Session). s.snapshot) left ∙ begun a.reads_only before.snapshot (length state.commits) begins.reads (sym (view_reads state session table) ∙ begins.before) in (
      record {
        connected = ap (λ (s : Session). is_some s.rights) left ∙ begins.connected;
        commit = subst (λ (o : Option ℕ). IsSomeAnd o (λ n. n ≤ length new.commits)) (sym snapshot) (commits_longer state.commits (committed_in a.reply.outcome));
        kept = subst KeepsWhatItHas (sym left) (subst (AllKeep a.own) (sym begins.unmarked) tt);
      },
      snapshot,
    )

-- ---- and comes to read only so

-- where the answer begins to read it marks the session, and this is so
abbrev OnlyMarked : Type 0 → View → Answer → Type 0
OnlyMarked Is view a = view.reads_only ≡ false → a.reads_only ≡ true → (a.reply.outcome ≡ Marked) × Is

-- the answer reads only where the view does
as_before : (view : View) (reads : Bool) {X : Type 0} → reads ≡ view.reads_only → view.reads_only ≡ false → reads ≡ true → X
as_before view reads same before is = absurd (let never : false ≡ true = sym before ∙ sym same ∙ is in cc)

unless_only : (Is : Type 0) (view : View) (draws : List Value) (fault : Option Fault) (a : Answer) → OnlyMarked Is view a → OnlyMarked Is view (unless view draws fault a)
unless_only Is view draws None a only = only
unless_only Is view draws (Some fault) a only = as_before view view.reads_only refl

module _ (Is : Type 0) (schema : SchemaView) (view : View) (next_values : List ℕ) (row : ℕ) where
  ruled_only : (table : ℕ) (draws : List Value) (causes : Causes) (effect : Effect) → OnlyMarked Is view (ruled table view draws causes effect)
  ruled_only table draws causes effect = unless_only Is view draws (ranked causes) (done table view draws effect) (as_before view view.reads_only refl)

  executed_only : (env : Environment) (plan : Plan ℕ) → (plan ≡ set_read_only → Is) → OnlyMarked Is view (executed schema view next_values row env plan)
  executed_only env (select table asked condition keys for_update) told = ruled_only table [] (select_causes env view asked condition for_update) (select_effect env view asked condition keys for_update)
  executed_only env (next sequence) told = as_before view view.reads_only refl
  executed_only env (insert table named entries) told =
      let draws = draws_of (insert table named entries) next_values in
      let new = new_row env (columns_of schema.tables table) draws row table named entries in
      ruled_only table draws (insert_causes env (columns_of schema.tables table) view draws new entries) (insert_effect new)
  executed_only env (update table changes condition) told = ruled_only table [] (update_causes env (columns_of schema.tables table) view changes condition) (update_effect env view changes condition)
  executed_only env (delete table condition) told = ruled_only table [] (delete_causes env view condition) (delete_effect env view condition)
  executed_only env commit told = λ before never. absurd (let no : false ≡ true = never in cc)
  executed_only env rollback told = λ before never. absurd (let no : false ≡ true = never in cc)
  executed_only env set_read_only told = λ before is. (refl, told refl)
  executed_only env (savepoint name) told = as_before view view.reads_only refl
  executed_only env (rollback_to name) told = as_before view view.reads_only refl

  answer_only : (request : Request) → ((binds : List Value) → request ≡ statement set_read_only binds → Is) → OnlyMarked Is view (answer schema view next_values row request)
  answer_only (connect service) told = unless_only Is view [] (connect_fault view service) (record (unchanged view (reply_of Connected [] None)) { rights = service }) (as_before view view.reads_only refl)
  answer_only disconnect told = unless_only Is view [] (disconnect_fault view) (ended None Disconnected) (λ before never. absurd (let no : false ≡ true = never in cc))
  answer_only unreadable told = as_before view view.reads_only refl
  answer_only (unsound table fault) told = as_before view view.reads_only refl
  answer_only (statement plan binds) told =
      let env : Environment = record { level = schema.level; binds = binds } in
      unless_only Is view [] (statement_fault view plan) (executed schema view next_values row env plan) (executed_only env plan (λ same. told binds (ap (λ (p : Plan ℕ). statement p binds) same)))

module _ (state : State) (session n : ℕ) (call : Call) (reads_not : (session_at state session).snapshot ≡ None) where
  abbrev IsSet : Type 0
  IsSet = (binds : List Value) × Requests state call set_read_only binds

  own_mark : (session_at (step state session call) session).snapshot ≡ Some n → ((reply_in state session call).outcome ≡ Marked) × IsSet
  own_mark reads = elim (cases_lt session (length state.sessions)) [
    | inl within ↦ (
        let request = request_of state.start.schema call in
        let table = table_in request in
        let a = answer_in state session call in
        let before = session_at state session in
        let now : snapshot_after a.reads_only before.snapshot (length state.commits) ≡ Some n = sym (ap (λ (s : Session). s.snapshot) (left_at state session call within)) ∙ reads in
        answer_only IsSet state.start.schema (view_of state session table) state.next_values state.next_row request (λ binds asks. (binds, asks))
        (view_reads state session table ∙ ap is_some reads_not) (reads_after a.reads_only before.snapshot (length state.commits) (ap is_some now)))
    | inr past ↦ absurd (let never : None ≡ Some n = sym (ap (λ (s : Session). s.snapshot) (beyond_at state session call past)) ∙ reads in cc)
  ]

pub only_marked_sessions_read : OnlyMarkedSessionsRead
only_marked_sessions_read state session by n call reads_not reads = elim (cases_eq session by) [
  | inl same ↦ (
      let mark = own_mark state session n call reads_not (subst (λ (s : ℕ). (session_at (step state s call) session).snapshot ≡ Some n) (sym same) reads) in
      (sym same, subst (λ (s : ℕ). (reply_in state s call).outcome ≡ Marked) same mark.0, mark.1))
  | inr apart ↦ absurd (let never : None ≡ Some n = sym reads_not ∙ sym (ap (λ (s : Session). s.snapshot) (others_are_left state by session call apart)) ∙ reads in cc)
]
