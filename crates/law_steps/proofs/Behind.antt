-- What steps and runs leave of savepoints, and what going back leaves of a session.
use Rattle.std.proofs.Common.{◌≡◌, ◌∙◌, ◌<◌, inl, inr, ℕ, ◌+◌, Bool, true, false, List, [], ◌∷◌, ◌++◌, length, set, refl, sym, ap, subst, arith}
use Rattle.std.proofs.lemmas.Bool.{cases_eq, cases_lt, false≢true}
use Rattle.std.proofs.lemmas.List.{get_or_past}
use Rattle.std.proofs.lemmas.Option.{same_Some}
use Rattle.std.specs.Prelude.{◌&&◌, not, if◌then◌else◌, is_none, is_some, nat_eq, Option, None, Some, Result, Ok, Err}
use Rattle.std.specs.Option.{option_and_then}
use Rattle.std.specs.List.{AllByRecursion}
use Rattle.desk_values.specs.declared.call.Call.{Call}
use Rattle.desk_values.specs.declared.call.Call.TheVariants.{Connect, Sql, Disconnect}
use Rattle.desk_values.specs.declared.call.Outcome.TheVariants.{Refused, RolledBack}
use Rattle.desk_values.specs.declared.fault.Fault.{Fault}
use Rattle.desk_values.specs.declared.fault.Fault.TheVariants.{NoSavepoint, NotConnected}
use Rattle.desk_values.specs.declared.value.Value.{Value}
use Rattle.desk_schema.specs.declared.schema.Rights.{Rights}
use Rattle.desk_schema.specs.Schema.{SchemaView}
use Rattle.sql_tree.specs.Naming.{Naming, map_plan}
use Rattle.sql_tree.specs.Plain.{Name, Plan, select, next, insert, update, delete, commit, rollback, set_read_only, savepoint, rollback_to}
use Rattle.sql_reader.specs.Reading.{statement_of}
use Rattle.sql_eval.specs.Check.{check_of, first_fault}
use Rattle.sql_eval.specs.SchemaNames.{numbered}
use Rattle.server_words.specs.declared.session.Savepoint.{Savepoint}
use Rattle.server_words.specs.declared.session.Session.{Session}
use Rattle.server_words.specs.Answer.{Answer, answer, gone_back, marked, unless}
use Rattle.server_words.specs.Causes.{is_empty, statement_fault}
use Rattle.server_words.specs.Draws.{moved}
use Rattle.server_words.specs.Request.{Request, checked, statement, known_in, names_savepoint, read, request_of, statement_in, table_in, table_named}
use Rattle.server_words.specs.Savepoints.{has_savepoint, up_to, without}
use Rattle.server_words.specs.State.{State, disconnected, opening, session_at}
use Rattle.server_words.specs.Step.{after, answer_in, reply_in, run, session_after, snapshot_after, step}
use Rattle.server_words.specs.View.{View, plain_view, view_of}
use Rattle.server_words.proofs.Members.{each_repeated, each_set, one_of}
use Rattle.server_words.proofs.SoundPlans.{told_ok}
use Rattle.law_steps.specs.Holding.{IsNoRefusal}
use Rattle.law_steps.specs.Marks.{GoesOnBehind, NamesDiffer, OldServersHaveNoSavepoint, OthersLeaveSavepoints, SavepointNamesDiffer, SavepointsLeaveTheRest, StaysBehind, StretchesAreUndone}
use Rattle.law_steps.specs.Reading.{Requests, ends_transaction}
use Rattle.law_steps.proofs.Going.{IsSteady, Marks, answer_marks, answer_stays}
use Rattle.law_steps.proofs.Kept.{going_back_restores, savepoints_keep}
use Rattle.law_steps.proofs.Leaving.{beyond_at, left_at, others_are_left, snapshot_stays, steps_add, view_reads, view_rights, view_savepoints}
use Rattle.law_steps.proofs.Named.{HasFront, front_has, front_there, front_up_to, front_with, gone_without, names_up_to, names_with}
use Rattle.law_steps.proofs.Reading.{has_rights}

-- ---- other statements

module _ (state : State) (session : ℕ) (call : Call) where
  abbrev request : Request
  request = request_of state.start.schema call

  abbrev view : View
  view = view_of state session (table_in request)

  abbrev given : Answer
  given = answer_in state session call

  marks : Marks view request given
  marks = answer_marks view state.start.schema state.next_values state.next_row request

  left_so : ((name : List ℕ) (binds : List Value) → ¬ Requests state call (savepoint name) binds) → ends_transaction given.reply.outcome ≡ false → given.savepoints ≡ view.savepoints
  left_so sets goes = elim marks [
    | inl same ↦ same
    | inr other ↦ elim other [
      | inl drops ↦ absurd (false≢true (sym goes ∙ drops.ends))
      | inr either ↦ elim either [
        | inl set_one ↦ absurd (sets set_one.0 set_one.1 set_one.2)
        | inr back ↦ absurd (false≢true (sym goes ∙ ap (λ (a : Answer). ends_transaction a.reply.outcome) back.3))
      ]
    ]
  ]

pub others_leave_savepoints : OthersLeaveSavepoints
others_leave_savepoints state session call sets goes = elim (cases_lt session (length state.sessions)) [
  | inl within ↦ (
      ap (λ (s : Session). s.savepoints) (left_at state session call within) ∙ left_so state session call sets goes
      ∙ view_savepoints state session (table_in (request_of state.start.schema call)))
  | inr past ↦ (
      ap (λ (s : Session). s.savepoints) (beyond_at state session call past)
      ∙ ap (λ (s : Session). s.savepoints) (sym (get_or_past state.sessions session disconnected past)))
]

-- ---- the rest of the state

none_moved : (sequence : ℕ) (ns : List ℕ) → moved [] sequence ns ≡ ns
none_moved sequence [] = refl
none_moved sequence (n ∷ ns) = ap (λ (ms : List ℕ). n ∷ ms) (none_moved (sequence + 1) ns)

-- the state with another session alone
abbrev LeavesRest : State → ℕ → Answer → Type 0
LeavesRest state session a = after state session a ≡ record state { sessions = (after state session a).sessions }

module _ (state : State) (session : ℕ) (view : View) where
  abbrev put : Answer → List Session
  put a = set state.sessions session (session_after (session_at state session) (length state.commits) a)

  unless_rest : (fault : Option Fault) (a : Answer) → LeavesRest state session a → LeavesRest state session (unless view [] fault a)
  unless_rest None a rest = rest
  unless_rest (Some fault) a rest = ap (λ (ns : List ℕ). record state { next_values = ns; sessions = put (unless view [] (Some fault) a) }) (none_moved 0 state.next_values)

  marked_rest : (name : List ℕ) → LeavesRest state session (marked view name)
  marked_rest name = ap (λ (ns : List ℕ). record state { next_values = ns; sessions = put (marked view name) }) (none_moved 0 state.next_values)

  back_rest : (name : List ℕ) → LeavesRest state session (gone_back view name)
  back_rest name = ap (λ (ns : List ℕ). record state { next_values = ns; sessions = put (gone_back view name) }) (none_moved 0 state.next_values)

-- of a statement that names no table
by_request : (state : State) (session : ℕ) (call : Call) (P : Answer → Type 0) (plan : Plan ℕ) (binds : List Value) → Requests state call plan binds
    → P (answer state.start.schema (view_of state session (table_in (statement plan binds))) state.next_values state.next_row (statement plan binds)) → P (answer_in state session call)
by_request state session call P plan binds asks = subst (λ (r : Request). P (answer state.start.schema (view_of state session (table_in r)) state.next_values state.next_row r)) (sym asks)

pub savepoints_leave_the_rest : SavepointsLeaveTheRest
savepoints_leave_the_rest state session call name binds asks =
    let view = plain_view (session_at state session) in
    elim asks [
      | inl sets ↦ by_request state session call (LeavesRest state session) (savepoint name) binds sets
          (unless_rest state session view (statement_fault view (savepoint name)) (marked view name) (marked_rest state session view name))
      | inr back ↦ by_request state session call (LeavesRest state session) (rollback_to name) binds back
          (unless_rest state session view (statement_fault view (rollback_to name)) (gone_back view name) (back_rest state session view name))
    ]

-- ---- names

module _ (state : State) (session : ℕ) (call : Call) where
  names_after : NamesDiffer (session_at state session).savepoints → NamesDiffer (answer_in state session call).savepoints
  names_after differ =
      let request = request_of state.start.schema call in
      let view = view_of state session (table_in request) in
      let seen : NamesDiffer view.savepoints = subst NamesDiffer (sym (view_savepoints state session (table_in request))) differ in
      elim (marks state session call) [
        | inl same ↦ subst NamesDiffer (sym same) seen
        | inr other ↦ elim other [
          | inl drops ↦ subst NamesDiffer (sym drops.none) tt
          | inr either ↦ elim either [
            | inl sets ↦ subst (λ (a : Answer). NamesDiffer a.savepoints) (sym sets.3) (names_with view.savepoints (record { name = sets.0; own = view.own }) seen)
            | inr back ↦ subst (λ (a : Answer). NamesDiffer a.savepoints) (sym back.3) (names_up_to back.0 view.savepoints seen)
          ]
        ]
      ]

abbrev HasOwnNames : Session → Type 0
HasOwnNames session = NamesDiffer session.savepoints

names_run : (state : State) (calls : List (ℕ × Call)) → AllByRecursion HasOwnNames state.sessions → AllByRecursion HasOwnNames (run state calls).sessions
names_run state [] differ = differ
names_run state (call ∷ calls) differ =
    let before = session_at state call.0 in
    let here : HasOwnNames before = one_of HasOwnNames state.sessions call.0 disconnected tt differ in
    names_run (step state call.0 call.1) calls
    (each_set HasOwnNames state.sessions call.0 (session_after before (length state.commits) (answer_in state call.0 call.1)) (names_after state call.0 call.1 here) differ)

pub savepoint_names_differ : SavepointNamesDiffer
savepoint_names_differ start calls session =
    one_of HasOwnNames (run (opening start) calls).sessions session disconnected tt (names_run (opening start) calls (each_repeated HasOwnNames 64 disconnected tt))

-- ---- version 1

names_mapped : {A B : Type 0} (by : Naming A B) (plan : Plan A) → names_savepoint (map_plan by plan) ≡ names_savepoint plan
names_mapped by (select table asked condition keys held) = refl
names_mapped by (next sequence) = refl
names_mapped by (insert table named entries) = refl
names_mapped by (update table changes condition) = refl
names_mapped by (delete table condition) = refl
names_mapped by commit = refl
names_mapped by rollback = refl
names_mapped by set_read_only = refl
names_mapped by (savepoint name) = refl
names_mapped by (rollback_to name) = refl

known_old : (found : Option (Plan Name)) (parsed : Plan Name) → option_and_then (known_in 1) found ≡ Some parsed → names_savepoint parsed ≡ false
known_old None parsed = λ never. absurd cc
known_old (Some plan) parsed =
    elim (names_savepoint plan) as (λ b. names_savepoint plan ≡ b → (if nat_eq 1 1 && b then None else Some plan) ≡ Some parsed → names_savepoint parsed ≡ false) [
      | true ↦ λ is never. absurd cc
      | false ↦ λ is same. ap names_savepoint (sym (same_Some plan parsed same)) ∙ is
    ] refl

abbrev plan_of : Request → Option (Plan ℕ)
plan_of (statement plan binds) = Some plan
plan_of other = None

module _ (schema : SchemaView) (plan : Plan ℕ) where
  checked_old : (table : Option ℕ) (binds : List Value) (found : Result (Plan ℕ) Fault) → ((p : Plan ℕ) → found ≡ Ok p → names_savepoint p ≡ false) → plan_of (checked table binds found) ≡ Some plan → names_savepoint plan ≡ false
  checked_old table binds (Ok p) passed is = ap names_savepoint (sym (same_Some p plan is)) ∙ passed p refl
  checked_old table binds (Err fault) passed is = absurd cc

  read_old : (binds : List Value) (found : Option (Plan Name)) → ((parsed : Plan Name) → found ≡ Some parsed → names_savepoint parsed ≡ false) → plan_of (read schema binds found) ≡ Some plan → names_savepoint plan ≡ false
  read_old binds None known is = absurd cc
  read_old binds (Some parsed) known is = checked_old (table_named schema parsed) binds (check_of schema binds parsed)
      (λ p same. ap names_savepoint (sym (told_ok schema binds (first_fault schema binds parsed) (numbered schema parsed) p same)) ∙ names_mapped _ parsed ∙ known parsed refl) is

  request_old : schema.version ≡ 1 → (call : Call) → plan_of (request_of schema call) ≡ Some plan → names_savepoint plan ≡ false
  request_old old (Connect service) is = absurd cc
  request_old old Disconnect is = absurd cc
  request_old old (Sql text binds) is =
      read_old binds (statement_in schema.version text) (λ parsed same. known_old (statement_of text) parsed (subst (λ (v : ℕ). option_and_then (known_in v) (statement_of text) ≡ Some parsed) old same)) is

abbrev HasNone : Session → Type 0
HasNone session = session.savepoints ≡ []

none_after : (state : State) (session : ℕ) (call : Call) → state.start.schema.version ≡ 1 → HasNone (session_at state session) → (answer_in state session call).savepoints ≡ []
none_after state session call old none =
    let request = request_of state.start.schema call in
    let view = view_of state session (table_in request) in
    let seen : view.savepoints ≡ [] = view_savepoints state session (table_in request) ∙ none in
    elim (marks state session call) [
      | inl same ↦ same ∙ seen
      | inr other ↦ elim other [
        | inl drops ↦ drops.none
        | inr either ↦ elim either [
          | inl sets ↦ absurd (false≢true (sym (request_old state.start.schema (savepoint sets.0) old call (ap plan_of sets.2))))
          | inr back ↦ ap (λ (a : Answer). a.savepoints) back.3 ∙ ap (up_to back.0) seen
        ]
      ]
    ]

none_run : (state : State) (calls : List (ℕ × Call)) → state.start.schema.version ≡ 1 → AllByRecursion HasNone state.sessions → AllByRecursion HasNone (run state calls).sessions
none_run state [] old none = none
none_run state (call ∷ calls) old none =
    let before = session_at state call.0 in
    let here : HasNone before = one_of HasNone state.sessions call.0 disconnected refl none in
    none_run (step state call.0 call.1) calls old
    (each_set HasNone state.sessions call.0 (session_after before (length state.commits) (answer_in state call.0 call.1)) (none_after state call.0 call.1 old here) none)

pub old_servers_have_no_savepoint : OldServersHaveNoSavepoint
old_servers_have_no_savepoint start calls session old =
    one_of HasNone (run (opening start) calls).sessions session disconnected refl (none_run (opening start) calls old (each_repeated HasNone 64 disconnected refl))

-- ---- from a savepoint on

-- the session as it was when the savepoint was set, but for what it did since
record IsBehind (this : Savepoint) (front : List Savepoint) (before now : Session) : Type 0 where
  rights : now.rights ≡ before.rights
  snapshot : now.snapshot ≡ before.snapshot
  savepoints : HasFront this front now.savepoints

module _ (this : Savepoint) (front : List Savepoint) (before : Session) (connected : is_some before.rights ≡ true) where
  abbrev Behind : Session → Type 0
  Behind now = IsBehind this front before now

  module _ (state : State) (session : ℕ) (within : session < length state.sessions) (is : Behind (session_at state session)) (call : Call) (goes : GoesOnBehind this.name front state session call) where
    abbrev asked : Request
    asked = request_of state.start.schema call

    abbrev seen : View
    seen = view_of state session (table_in asked)

    seen_front : HasFront this front seen.savepoints
    seen_front = (is.savepoints.0, view_savepoints state session (table_in asked) ∙ is.savepoints.1)

    still_front : HasFront this front (answer_in state session call).savepoints
    still_front = elim (marks state session call) [
      | inl same ↦ (seen_front.0, same ∙ seen_front.1)
      | inr other ↦ elim other [
        | inl drops ↦ absurd (drops.away (goes.ends drops.ends))
        | inr either ↦ elim either [
          | inl sets ↦ (
              let apart = goes.sets sets.0 sets.1 sets.2 in
              subst (λ (a : Answer). HasFront this front a.savepoints) (sym sets.3)
              (front_with this front seen.savepoints (record { name = sets.0; own = seen.own }) apart.0 apart.1 seen_front))
          | inr back ↦ subst (λ (a : Answer). HasFront this front a.savepoints) (sym back.3) (front_up_to this front seen.savepoints back.0 (goes.back back.0 back.1 back.2) seen_front)
        ]
      ]
    ]

    steady : IsSteady seen (answer_in state session call)
    steady = answer_stays seen (ap is_some (view_rights state session (table_in asked) ∙ is.rights) ∙ connected) (ap is_empty seen_front.1 ∙ front_there this front seen_front.0)
        state.start.schema state.next_values state.next_row asked goes.ends

    own_step : Behind (session_at (step state session call) session)
    own_step =
        let left = left_at state session call within in
        let now = session_at state session in
        subst Behind (sym left) (record {
          rights = steady.rights ∙ view_rights state session (table_in asked) ∙ is.rights;
          snapshot = ap (λ (b : Bool). snapshot_after b now.snapshot (length state.commits)) (steady.reads_only ∙ view_reads state session (table_in asked))
              ∙ snapshot_stays now.snapshot (length state.commits) ∙ is.snapshot;
          savepoints = still_front;
        })

  any_step : (state : State) (session by : ℕ) (call : Call) → session < length state.sessions → Behind (session_at state session) → (by ≡ session → GoesOnBehind this.name front state by call) → Behind (session_at (step state by call) session)
  any_step state session by call within is goes = elim (cases_eq session by) [
    | inl same ↦ subst (λ (s : ℕ). Behind (session_at (step state s call) session)) same
        (own_step state session within is call (subst (λ (s : ℕ). GoesOnBehind this.name front state s call) (sym same) (goes (sym same))))
    | inr apart ↦ subst Behind (sym (others_are_left state by session call apart)) is
  ]

  all_steps : (state : State) (session : ℕ) (calls : List (ℕ × Call)) → session < length state.sessions → Behind (session_at state session) → StaysBehind this.name front state session calls
      → (session < length (run state calls).sessions) × Behind (session_at (run state calls) session)
  all_steps state session [] within is goes = (within, is)
  all_steps state session (call ∷ calls) within is goes =
      let new = step state call.0 call.1 in
      let still : session < length new.sessions = omega (arith, within, (steps_add state call.0 call.1).sessions) in
      all_steps new session calls still (any_step state session call.0 call.1 within is goes.0) goes.1

-- ---- and back to it

no_fault_in : (before : View) (fault : Option Fault) (a : Answer) → IsNoRefusal (unless before [] fault a).reply.outcome → fault ≡ None
no_fault_in before None a answered = refl
no_fault_in before (Some fault) a answered = absurd (answered fault refl)

nothing_wrong : (rights : Option Rights) (has : Bool) → is_some rights ≡ true → has ≡ true → (if is_none rights then Some NotConnected else if not has then Some NoSavepoint else None) ≡ None
nothing_wrong None has there is = absurd (false≢true there)
nothing_wrong (Some rights) true there is = refl
nothing_wrong (Some rights) false there is = absurd (false≢true is)

back_unforbidden : (view : View) (name : List ℕ) → is_some view.rights ≡ true → has_savepoint name view.savepoints ≡ true → statement_fault view (rollback_to name) ≡ None
unfolding statement_fault
back_unforbidden view name there is = nothing_wrong view.rights (has_savepoint name view.savepoints) there is

pub stretches_are_undone : StretchesAreUndone
stretches_are_undone state session call back name binds others calls within differ asks answered goes returns =
    let before = session_at state session in
    let front = without name before.savepoints in
    let this : Savepoint = record { name = name; own = before.own } in
    let new = step state session call in
    let there = run new calls in
    let set_now : session_at new session ≡ record before { savepoints = front ++ this ∷ [] } = savepoints_keep state session call name binds within asks answered in
    let seen = plain_view before in
    let connected : is_some before.rights ≡ true =
    by_request state session call (λ (a : Answer). IsNoRefusal a.reply.outcome → is_some before.rights ≡ true) (savepoint name) binds asks
    (λ done. has_rights seen (savepoint name) (no_fault_in seen (statement_fault seen (savepoint name)) (marked seen name) done)) answered in
    let still : session < length new.sessions = omega (arith, within, (steps_add state session call).sessions) in
    let at_first : IsBehind this front before (session_at new session) =
    subst (λ (s : Session). IsBehind this front before s) (sym set_now) (record { rights = refl; snapshot = refl; savepoints = ([], refl) }) in
    let far = all_steps this front before connected new session calls still at_first goes in
    let now = session_at there session in
    let is : IsBehind this front before now = far.1 in
    let view = plain_view now in
    let none : statement_fault view (rollback_to name) ≡ None =
    back_unforbidden view name (ap is_some is.rights ∙ connected) (ap (has_savepoint name) is.savepoints.1 ∙ front_has this front is.savepoints.0) in
    let gone : answer_in there session back ≡ gone_back view name =
    by_request there session back (λ (a : Answer). a ≡ gone_back view name) (rollback_to name) others returns
    (ap (λ (fault : Option Fault). unless view [] fault (gone_back view name)) none) in
    let outcome : (reply_in there session back).outcome ≡ RolledBack = ap (λ (a : Answer). a.reply.outcome) gone in (
      outcome,
      going_back_restores there session back name others before.own front is.savepoints.0 far.0 returns
          (λ fault refused. (let never : RolledBack ≡ Refused fault = sym outcome ∙ refused in cc)) is.savepoints.1 (gone_without name before.savepoints differ)
          ∙ (λ i. record { rights = is.rights i; snapshot = is.snapshot i; own = before.own; savepoints = front ++ this ∷ [] })
          ∙ sym set_now,
    )
