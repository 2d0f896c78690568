-- What a step leaves as it was.
use Rattle.std.proofs.Common.{◌≡◌, ◌∙◌, ◌<◌, ◌≤◌, ℕ, ◌+◌, Bool, true, false, List, [], ◌∷◌, length, take, set, refl, ap, arith, length-set}
use Rattle.std.proofs.lemmas.List.{get_or-set_other, get_or-set_same, get_or_past, length-append, set-get_or, take-append-le}
use Rattle.std.proofs.Math.Seq.{take-append_seam, take-length}
use Rattle.std.specs.Prelude.{if◌then◌else◌, is_some, Option, None, Some}
use Rattle.std.specs.List.{AllZip, list_any}
use Rattle.desk_values.specs.declared.call.Call.{Call}
use Rattle.desk_values.specs.declared.call.Outcome.{Outcome}
use Rattle.desk_values.specs.declared.call.Outcome.TheVariants.{Connected, Disconnected, Refused}
use Rattle.desk_values.specs.declared.fault.Fault.{Fault}
use Rattle.desk_values.specs.declared.value.Image.{Image}
use Rattle.desk_values.specs.declared.value.Value.{Value}
use Rattle.desk_schema.specs.declared.schema.Rights.{Rights}
use Rattle.desk_schema.specs.Schema.{SchemaView, columns_of}
use Rattle.sql_tree.specs.Plain.{Plan, select, next, insert, update, delete, commit, rollback, set_read_only, savepoint, rollback_to}
use Rattle.server_words.specs.declared.session.Savepoint.{Savepoint}
use Rattle.server_words.specs.declared.session.Session.{Session}
use Rattle.server_words.specs.declared.session.Transaction.{Transaction}
use Rattle.server_words.specs.declared.causes.Causes.{Causes}
use Rattle.server_words.specs.declared.effect.Effect.{Effect}
use Rattle.server_words.specs.Answer.{Answer, answer, delete_causes, delete_effect, done, ended, executed, insert_causes, insert_effect, new_row, reply_of, ruled, select_causes, select_effect, unchanged, unless, update_causes, update_effect}
use Rattle.server_words.specs.Causes.{connect_fault, disconnect_fault, ranked, statement_fault}
use Rattle.server_words.specs.Draws.{draws_of, is_draw_of, moved}
use Rattle.server_words.specs.Found.{Environment}
use Rattle.server_words.specs.Request.{Request, connect, disconnect, unreadable, unsound, statement, request_of, table_in}
use Rattle.server_words.specs.State.{State, disconnected, session_at}
use Rattle.server_words.specs.Step.{after_made, answer_in, committed_in, run, session_after, snapshot_after, step, with_commit}
use Rattle.server_words.specs.View.{View, view_of}
use Rattle.law_steps.specs.Leaving.{OnlyAdds, OthersAreLeft, OthersAreLeftByRuns, RefusedLeaves, RunsAdd, StepsAdd}

-- ---- what a refusal keeps

-- the answer makes no row, and leaves the session as it was
pub record Keeps (view : View) (a : Answer) : Type 0 where
  pub made : a.reply.made ≡ None
  pub rights : a.rights ≡ view.rights
  pub reads_only : a.reads_only ≡ view.reads_only
  pub own : a.own ≡ view.own
  pub savepoints : a.savepoints ≡ view.savepoints

abbrev KeepsIfRefused : View → Answer → Type 0
KeepsIfRefused view a = (fault : Fault) → a.reply.outcome ≡ Refused fault → Keeps view a

unless_keeps : (view : View) (draws : List Value) (fault : Option Fault) (a : Answer) → KeepsIfRefused view a → KeepsIfRefused view (unless view draws fault a)
unless_keeps view draws None a keeps = keeps
unless_keeps view draws (Some fault) a keeps = λ other is. record { made = refl; rights = refl; reads_only = refl; own = refl; savepoints = refl }

-- the reply of what is done is no refusal
ruled_keeps : (table : ℕ) (view : View) (draws : List Value) (causes : Causes) (effect : Effect) → ((fault : Fault) → effect.outcome ≡ Refused fault → ⊥) → KeepsIfRefused view (ruled table view draws causes effect)
ruled_keeps table view draws causes effect never = unless_keeps view draws (ranked causes) (done table view draws effect) (λ fault is. absurd (never fault is))

module _ (schema : SchemaView) (view : View) (next_values : List ℕ) (row : ℕ) where
  executed_keeps : (env : Environment) (plan : Plan ℕ) → KeepsIfRefused view (executed schema view next_values row env plan)
  executed_keeps env (select table asked condition keys for_update) = ruled_keeps table view [] (select_causes env view asked condition for_update) (select_effect env view asked condition keys for_update) (λ fault is. cc)
  executed_keeps env (next sequence) = λ fault is. absurd (cc)
  executed_keeps env (insert table named entries) =
      let draws = draws_of (insert table named entries) next_values in
      let new = new_row env (columns_of schema.tables table) draws row table named entries in
      ruled_keeps table view draws (insert_causes env (columns_of schema.tables table) view draws new entries) (insert_effect new) (λ fault is. cc)
  executed_keeps env (update table changes condition) = ruled_keeps table view [] (update_causes env (columns_of schema.tables table) view changes condition) (update_effect env view changes condition) (λ fault is. cc)
  executed_keeps env (delete table condition) = ruled_keeps table view [] (delete_causes env view condition) (delete_effect env view condition) (λ fault is. cc)
  executed_keeps env commit = λ fault is. absurd (cc)
  executed_keeps env rollback = λ fault is. absurd (cc)
  executed_keeps env set_read_only = λ fault is. absurd (cc)
  executed_keeps env (savepoint name) = λ fault is. absurd (cc)
  executed_keeps env (rollback_to name) = λ fault is. absurd (cc)

  answer_keeps : (request : Request) → KeepsIfRefused view (answer schema view next_values row request)
  answer_keeps (connect service) = unless_keeps view [] (connect_fault view service) (record (unchanged view (reply_of Connected [] None)) { rights = service }) (λ fault is. absurd (cc))
  answer_keeps disconnect = unless_keeps view [] (disconnect_fault view) (ended None Disconnected) (λ fault is. absurd (cc))
  answer_keeps unreadable = λ fault is. record { made = refl; rights = refl; reads_only = refl; own = refl; savepoints = refl }
  answer_keeps (unsound table fault) = λ other is. record { made = refl; rights = refl; reads_only = refl; own = refl; savepoints = refl }
  answer_keeps (statement plan binds) =
      let env : Environment = record { level = schema.level; binds = binds } in
      unless_keeps view [] (statement_fault view plan) (executed schema view next_values row env plan) (executed_keeps env plan)

-- ---- the session of a view

pub view_rights : (state : State) (session : ℕ) (table : Option ℕ) → (view_of state session table).rights ≡ (session_at state session).rights
view_rights state session None = refl
view_rights state session (Some table) = refl

pub view_reads : (state : State) (session : ℕ) (table : Option ℕ) → (view_of state session table).reads_only ≡ is_some (session_at state session).snapshot
view_reads state session None = refl
view_reads state session (Some table) = refl

pub view_own : (state : State) (session : ℕ) (table : Option ℕ) → (view_of state session table).own ≡ (session_at state session).own
view_own state session None = refl
view_own state session (Some table) = refl

pub view_savepoints : (state : State) (session : ℕ) (table : Option ℕ) → (view_of state session table).savepoints ≡ (session_at state session).savepoints
view_savepoints state session None = refl
view_savepoints state session (Some table) = refl

-- a transaction that reads on reads at its commit, and one that does not at none
pub snapshot_stays : (snapshot : Option ℕ) (commits : ℕ) → snapshot_after (is_some snapshot) snapshot commits ≡ snapshot
snapshot_stays None commits = refl
snapshot_stays (Some n) commits = refl

pub same_session : (before : Session) (commits : ℕ) (a : Answer) → a.rights ≡ before.rights → a.reads_only ≡ is_some before.snapshot → a.own ≡ before.own → a.savepoints ≡ before.savepoints → session_after before commits a ≡ before
same_session before commits a rights reads own savepoints =
    let snapshot : snapshot_after a.reads_only before.snapshot commits ≡ before.snapshot = ap (λ (b : Bool). snapshot_after b before.snapshot commits) reads ∙ snapshot_stays before.snapshot commits in
    ap (λ (r : Option Rights). record { rights = r; snapshot = snapshot_after a.reads_only before.snapshot commits; own = a.own; savepoints = a.savepoints }) rights
    ∙ ap (λ (s : Option ℕ). record { rights = before.rights; snapshot = s; own = a.own; savepoints = a.savepoints }) snapshot
    ∙ ap (λ (own : Transaction). record { rights = before.rights; snapshot = before.snapshot; own = own; savepoints = a.savepoints }) own
    ∙ ap (λ (savepoints : List Savepoint). record { rights = before.rights; snapshot = before.snapshot; own = before.own; savepoints = savepoints }) savepoints

-- the session that a step leaves, where it leaves it as it was
pub sessions_stay : (state : State) (session : ℕ) (left : Session) → left ≡ session_at state session → set state.sessions session left ≡ state.sessions
sessions_stay state session left is = ap (set state.sessions session) is ∙ set-get_or state.sessions session disconnected

module _ (state : State) (session : ℕ) (call : Call) where
  pub left_at : session < length state.sessions → session_at (step state session call) session ≡ session_after (session_at state session) (length state.commits) (answer_in state session call)
  left_at within = get_or-set_same state.sessions session (session_after (session_at state session) (length state.commits) (answer_in state session call)) disconnected within

  -- there is no such session
  pub beyond_at : length state.sessions ≤ session → session_at (step state session call) session ≡ disconnected
  beyond_at past =
      let left = session_after (session_at state session) (length state.commits) (answer_in state session call) in
      get_or_past (set state.sessions session left) session disconnected (omega (arith, past, length-set state.sessions session left))

  keeps_session : Keeps (view_of state session (table_in (request_of state.start.schema call))) (answer_in state session call) → session_after (session_at state session) (length state.commits) (answer_in state session call) ≡ session_at state session
  keeps_session keeps =
      let table = table_in (request_of state.start.schema call) in
      same_session (session_at state session) (length state.commits) (answer_in state session call) (keeps.rights ∙ view_rights state session table) (keeps.reads_only ∙ view_reads state session table) (keeps.own ∙ view_own state session table) (keeps.savepoints ∙ view_savepoints state session table)

pub refused_leaves : RefusedLeaves
refused_leaves state session call fault is =
    let request = request_of state.start.schema call in
    let a = answer_in state session call in
    let keeps : Keeps (view_of state session (table_in request)) a = answer_keeps state.start.schema (view_of state session (table_in request)) state.next_values state.next_row request fault is in
    let left = session_after (session_at state session) (length state.commits) a in
    let values = moved a.reply.draws 0 state.next_values in
    ap (λ (o : Outcome). record state { commits = with_commit state.commits (committed_in o); next_row = after_made a.reply.made state.next_row; next_values = values; sessions = set state.sessions session left }) is
    ∙ ap (λ (made : Option ℕ). record state { next_row = after_made made state.next_row; next_values = values; sessions = set state.sessions session left }) keeps.made
    ∙ ap (λ (sessions : List Session). record state { next_values = values; sessions = sessions }) (sessions_stay state session left (keeps_session state session call keeps))

-- ---- other sessions

pub others_are_left : OthersAreLeft
others_are_left state session other call apart = get_or-set_other state.sessions session other (session_after (session_at state session) (length state.commits) (answer_in state session call)) disconnected apart

pub runs_leave_others : OthersAreLeftByRuns
runs_leave_others state other [] apart = refl
runs_leave_others state other (call ∷ calls) apart = runs_leave_others (step state call.0 call.1) other calls apart.1 ∙ others_are_left state call.0 other call.1 apart.0

-- ---- what is added

pub commits_longer : (commits : List (List Image)) (images : List Image) → length commits ≤ length (with_commit commits images)
commits_longer commits [] = omega arith
commits_longer commits (image ∷ images) = omega (arith, length-append commits ((image ∷ images) ∷ []))

commits_in_front : (commits : List (List Image)) (images : List Image) → take (length commits) (with_commit commits images) ≡ commits
commits_in_front commits [] = take-length commits
commits_in_front commits (image ∷ images) = take-append_seam commits ((image ∷ images) ∷ [])

pub taken_in_front : (n : ℕ) (commits : List (List Image)) (images : List Image) → n ≤ length commits → take n (with_commit commits images) ≡ take n commits
taken_in_front n commits [] within = refl
taken_in_front n commits (image ∷ images) within = take-append-le n commits ((image ∷ images) ∷ []) within

row_grows : (made : Option ℕ) (row : ℕ) → row ≤ after_made made row
row_grows None row = omega arith
row_grows (Some made) row = omega arith

value_grows : (moves : Bool) (n : ℕ) → n ≤ (if moves then n + 1 else n)
value_grows true n = omega arith
value_grows false n = omega arith

values_grow : (draws : List Value) (sequence : ℕ) (ns : List ℕ) → AllZip ◌≤◌ ns (moved draws sequence ns)
values_grow draws sequence [] = tt
values_grow draws sequence (n ∷ ns) = (value_grows (list_any (is_draw_of sequence) draws) n, values_grow draws (sequence + 1) ns)

pub steps_add : StepsAdd
steps_add state session call =
    let a = answer_in state session call in
    record {
      start = refl;
      commits = commits_in_front state.commits (committed_in a.reply.outcome);
      next_row = row_grows a.reply.made state.next_row;
      next_values = values_grow a.reply.draws 0 state.next_values;
      sessions = length-set state.sessions session (session_after (session_at state session) (length state.commits) a);
    }

-- ---- of runs

values_same : (ns : List ℕ) → AllZip ◌≤◌ ns ns
values_same [] = tt
values_same (n ∷ ns) = (omega arith, values_same ns)

values_after : (ns ms ks : List ℕ) → AllZip ◌≤◌ ns ms → AllZip ◌≤◌ ms ks → AllZip ◌≤◌ ns ks
values_after [] [] [] first second = tt
values_after [] [] (k ∷ ks) first second = absurd second
values_after [] (m ∷ ms) ks first second = absurd first
values_after (n ∷ ns) [] ks first second = absurd first
values_after (n ∷ ns) (m ∷ ms) [] first second = absurd second
values_after (n ∷ ns) (m ∷ ms) (k ∷ ks) first second = (omega (arith, first.0, second.0), values_after ns ms ks first.1 second.1)

in_front : {X : Type 0} (xs ys zs : List X) → take (length xs) ys ≡ xs → take (length ys) zs ≡ ys → take (length xs) zs ≡ xs
in_front [] ys zs first second = refl
in_front (x ∷ xs) [] zs first second = absurd (cc)
in_front (x ∷ xs) (y ∷ ys) [] first second = absurd (cc)
in_front (x ∷ xs) (y ∷ ys) (z ∷ zs) first second = let rest : take (length xs) zs ≡ xs = in_front xs ys zs (cc) (cc) in cc

nothing_added : (state : State) → OnlyAdds state state
nothing_added state = record { start = refl; commits = take-length state.commits; next_row = omega arith; next_values = values_same state.next_values; sessions = refl }

added_after : (old middle new : State) → OnlyAdds old middle → OnlyAdds middle new → OnlyAdds old new
added_after old middle new first second = record {
  start = second.start ∙ first.start;
  commits = in_front old.commits middle.commits new.commits first.commits second.commits;
  next_row = omega (arith, first.next_row, second.next_row);
  next_values = values_after old.next_values middle.next_values new.next_values first.next_values second.next_values;
  sessions = second.sessions ∙ first.sessions;
}

pub runs_add : RunsAdd
runs_add state [] = nothing_added state
runs_add state (call ∷ calls) = added_after state (step state call.0 call.1) (run (step state call.0 call.1) calls) (steps_add state call.0 call.1) (runs_add (step state call.0 call.1) calls)
