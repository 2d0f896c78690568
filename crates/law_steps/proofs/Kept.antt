-- What savepoints keep.
use Rattle.std.proofs.Common.{◌≡◌, ◌∙◌, ◌⊎◌, ◌<◌, inl, inr, ℕ, Bool, true, false, List, [], ◌∷◌, ◌++◌, length, refl, sym, ap, subst}
use Rattle.std.proofs.lemmas.Bool.{cases_lt}
use Rattle.std.proofs.lemmas.List.Elements.{Contains-push_cases}
use Rattle.std.proofs.lemmas.Slice.Eq.{bytes_eq-Decides}
use Rattle.std.specs.Prelude.{if◌then◌else◌, Option, None, Some}
use Rattle.std.specs.List.{AllByRecursion, Contains}
use Rattle.desk_values.specs.declared.call.Call.{Call}
use Rattle.desk_values.specs.declared.call.Outcome.TheVariants.{Connected, Disconnected}
use Rattle.desk_values.specs.declared.fault.Fault.{Fault}
use Rattle.desk_values.specs.declared.value.Value.{Value}
use Rattle.desk_schema.proofs.Members.{Contains-cases, Contains-here, Contains-none, Contains-there}
use Rattle.desk_schema.specs.Schema.{SchemaView}
use Rattle.sql_tree.specs.Plain.{Plan, select, next, insert, update, delete, commit, rollback, set_read_only, savepoint, rollback_to}
use Rattle.server_words.specs.declared.session.Savepoint.{Savepoint}
use Rattle.server_words.specs.declared.session.Session.{Session}
use Rattle.server_words.specs.declared.session.Transaction.{Transaction}
use Rattle.server_words.specs.Answer.{Answer, answer, ended, executed, gone_back, marked, reply_of, unchanged, unless}
use Rattle.server_words.specs.Causes.{connect_fault, disconnect_fault, statement_fault}
use Rattle.server_words.specs.Found.{Environment}
use Rattle.server_words.specs.Request.{Request, connect, disconnect, unreadable, unsound, statement, request_of, table_in}
use Rattle.server_words.specs.Savepoints.{is_named, own_at, up_to, with_savepoint, without}
use Rattle.server_words.specs.State.{State, session_at}
use Rattle.server_words.specs.Step.{answer_in, session_after}
use Rattle.server_words.specs.View.{View, plain_view, view_of}
use Rattle.law_steps.specs.Holding.{IsNoRefusal}
use Rattle.law_steps.specs.Marks.{GoingBackRestores, SavepointsKeep, SavepointsStay}
use Rattle.law_steps.specs.Reading.{Requests}
use Rattle.law_steps.proofs.Leaving.{beyond_at, left_at, snapshot_stays, view_own, view_savepoints}

-- ---- savepoints by their names

-- what there was at a savepoint is what it keeps, or what there is where there is no such savepoint
pub own_at_from : (name : List ℕ) (own : Transaction) (xs : List Savepoint) → (own_at name own xs ≡ own) ⊎ ((x : Savepoint) × Contains xs x × (x.name ≡ name) × (own_at name own xs ≡ x.own))
own_at_from name own [] = inl refl
own_at_from name own (x ∷ xs) =
    elim (is_named name x) as (λ b. is_named name x ≡ b → ((if b then x.own else own_at name own xs) ≡ own) ⊎ ((y : Savepoint) × Contains (x ∷ xs) y × (y.name ≡ name) × ((if b then x.own else own_at name own xs) ≡ y.own))) [
      | true ↦ λ is. inr (x, Contains-here x xs, (bytes_eq-Decides x.name name).0 is, refl)
      | false ↦ λ is. elim (own_at_from name own xs) [
        | inl same ↦ inl same
        | inr found ↦ inr (found.0, Contains-there x xs found.0 found.1, found.2, found.3)
      ]
    ] refl

-- those that are left were there
in_without : (name : List ℕ) (xs : List Savepoint) (y : Savepoint) → Contains (without name xs) y → Contains xs y
in_without name [] y = λ there. there
in_without name (x ∷ xs) y =
    elim (is_named name x) as (λ b. Contains (if b then xs else x ∷ without name xs) y → Contains (x ∷ xs) y) [
      | true ↦ λ there. Contains-there x xs y there
      | false ↦ λ there. elim (Contains-cases x (without name xs) y there) [
        | inl same ↦ subst (Contains (x ∷ xs)) same (Contains-here x xs)
        | inr later ↦ Contains-there x xs y (in_without name xs y later)
      ]
    ]

in_up_to : (name : List ℕ) (xs : List Savepoint) (y : Savepoint) → Contains (up_to name xs) y → Contains xs y
in_up_to name [] y = λ there. there
in_up_to name (x ∷ xs) y =
    elim (is_named name x) as (λ b. Contains (x ∷ (if b then [] else up_to name xs)) y → Contains (x ∷ xs) y) [
      | true ↦ λ there. elim (Contains-cases x [] y there) [ inl same ↦ subst (Contains (x ∷ xs)) same (Contains-here x xs) | inr never ↦ absurd (Contains-none y never) ]
      | false ↦ λ there. elim (Contains-cases x (up_to name xs) y there) [
        | inl same ↦ subst (Contains (x ∷ xs)) same (Contains-here x xs)
        | inr later ↦ Contains-there x xs y (in_up_to name xs y later)
      ]
    ]

-- the first of its name is found behind those of other names
module _ (name : List ℕ) (own : Transaction) (behind : List Savepoint) where
  abbrev this : Savepoint
  this = record { name = name; own = own }

  at_front : (front : List Savepoint) → AllByRecursion (λ (x : Savepoint). ¬ (x.name ≡ name)) front → (other : Transaction) → own_at name other (front ++ this ∷ behind) ≡ own
  at_front [] apart other = ap (λ (b : Bool). if b then own else own_at name other behind) ((bytes_eq-Decides name name).1 refl)
  at_front (x ∷ front) apart other =
      elim (is_named name x) as (λ b. is_named name x ≡ b → (if b then x.own else own_at name other (front ++ this ∷ behind)) ≡ own) [
        | true ↦ λ is. absurd (apart.0 ((bytes_eq-Decides x.name name).0 is))
        | false ↦ λ is. at_front front apart.1 other
      ] refl

  up_to_front : (front : List Savepoint) → AllByRecursion (λ (x : Savepoint). ¬ (x.name ≡ name)) front → up_to name (front ++ this ∷ behind) ≡ front ++ this ∷ []
  up_to_front [] apart = ap (λ (b : Bool). this ∷ (if b then [] else up_to name behind)) ((bytes_eq-Decides name name).1 refl)
  up_to_front (x ∷ front) apart =
      elim (is_named name x) as (λ b. is_named name x ≡ b → x ∷ (if b then [] else up_to name (front ++ this ∷ behind)) ≡ x ∷ (front ++ this ∷ [])) [
        | true ↦ λ is. absurd (apart.0 ((bytes_eq-Decides x.name name).0 is))
        | false ↦ λ is. ap (λ (l : List Savepoint). x ∷ l) (up_to_front front apart.1)
      ] refl

-- ---- a statement that is not refused is done

unrefused : (P : Answer → Type 0) (view : View) (fault : Option Fault) (a : Answer) → P a → IsNoRefusal (unless view [] fault a).reply.outcome → P (unless view [] fault a)
unrefused P view None a done answered = done
unrefused P view (Some fault) a done answered = absurd (answered fault refl)

module _ (state : State) (session : ℕ) (call : Call) (within : session < length state.sessions) where
  -- the session that an answer by its plain view leaves
  abbrev leaves : Answer → Session
  leaves a = session_after (session_at state session) (length state.commits) a

  -- the statement names no table
  by_plan : (P : Answer → Type 0) (plan : Plan ℕ) (binds : List Value) → Requests state call plan binds
      → P (answer state.start.schema (view_of state session (table_in (statement plan binds))) state.next_values state.next_row (statement plan binds)) → P (answer_in state session call)
  by_plan P plan binds asks = subst (λ (r : Request). P (answer state.start.schema (view_of state session (table_in r)) state.next_values state.next_row r)) (sym asks)

  kept_now : (name : List ℕ) (binds : List Value) → Requests state call (savepoint name) binds → IsNoRefusal (answer_in state session call).reply.outcome
      → answer_in state session call ≡ marked (plain_view (session_at state session)) name
  kept_now name binds asks =
      let view = plain_view (session_at state session) in
      by_plan (λ (a : Answer). IsNoRefusal a.reply.outcome → a ≡ marked view name) (savepoint name) binds asks
      (unrefused (λ (a : Answer). a ≡ marked view name) view (statement_fault view (savepoint name)) (marked view name) refl)

  back_now : (name : List ℕ) (binds : List Value) → Requests state call (rollback_to name) binds → IsNoRefusal (answer_in state session call).reply.outcome
      → answer_in state session call ≡ gone_back (plain_view (session_at state session)) name
  back_now name binds asks =
      let view = plain_view (session_at state session) in
      by_plan (λ (a : Answer). IsNoRefusal a.reply.outcome → a ≡ gone_back view name) (rollback_to name) binds asks
      (unrefused (λ (a : Answer). a ≡ gone_back view name) view (statement_fault view (rollback_to name)) (gone_back view name) refl)

pub savepoints_keep : SavepointsKeep
savepoints_keep state session call name binds within asks answered =
    let before = session_at state session in
    left_at state session call within
    ∙ ap (λ (a : Answer). session_after before (length state.commits) a) (kept_now state session call within name binds asks answered)
    ∙ ap (λ (s : Option ℕ). record before { snapshot = s; savepoints = with_savepoint before.savepoints (record { name = name; own = before.own }) }) (snapshot_stays before.snapshot (length state.commits))

pub going_back_restores : GoingBackRestores
going_back_restores state session call name binds own front behind within asks answered are apart =
    let before = session_at state session in
    left_at state session call within
    ∙ ap (λ (a : Answer). session_after before (length state.commits) a) (back_now state session call within name binds asks answered)
    ∙ ap (λ (s : Option ℕ). record before { snapshot = s; own = own_at name before.own before.savepoints; savepoints = up_to name before.savepoints }) (snapshot_stays before.snapshot (length state.commits))
    ∙ ap (λ (o : Transaction). record before { own = o; savepoints = up_to name before.savepoints }) (ap (own_at name before.own) are ∙ at_front name own behind front apart before.own)
    ∙ ap (λ (l : List Savepoint). record before { own = own; savepoints = l }) (ap (up_to name) are ∙ up_to_front name own behind front apart)

-- ---- what is kept stays so

module _ (view : View) (Sets : Savepoint → Type 0) where
  -- each savepoint afterwards was there, or is set
  abbrev Stay : Answer → Type 0
  Stay a = (x : Savepoint) → Contains a.savepoints x → Contains view.savepoints x ⊎ Sets x

  unless_stay : (draws : List Value) (fault : Option Fault) (a : Answer) → Stay a → Stay (unless view draws fault a)
  unless_stay draws None a stay = stay
  unless_stay draws (Some fault) a stay = λ x there. inl there

  all_drop : (x : Savepoint) → Contains {X = Savepoint} [] x → Contains view.savepoints x ⊎ Sets x
  all_drop x there = absurd (Contains-none x there)

  module _ (schema : SchemaView) (next_values : List ℕ) (row : ℕ) where
    executed_stay : (env : Environment) (plan : Plan ℕ) → ((name : List ℕ) → plan ≡ savepoint name → Sets (record { name = name; own = view.own })) → Stay (executed schema view next_values row env plan)
    executed_stay env (select table asked condition keys for_update) sets = unless_stay _ _ _ (λ x there. inl there)
    executed_stay env (next sequence) sets = λ x there. inl there
    executed_stay env (insert table named entries) sets = unless_stay _ _ _ (λ x there. inl there)
    executed_stay env (update table changes condition) sets = unless_stay _ _ _ (λ x there. inl there)
    executed_stay env (delete table condition) sets = unless_stay _ _ _ (λ x there. inl there)
    executed_stay env commit sets = all_drop
    executed_stay env rollback sets = all_drop
    executed_stay env set_read_only sets = λ x there. inl there
    executed_stay env (savepoint name) sets = λ x there. elim (Contains-push_cases (without name view.savepoints) (record { name = name; own = view.own }) x there) [
      | inl old ↦ inl (in_without name view.savepoints x old)
      | inr new ↦ inr (subst Sets new (sets name refl))
    ]
    executed_stay env (rollback_to name) sets = λ x there. inl (in_up_to name view.savepoints x there)

module _ (state : State) (session : ℕ) (call : Call) where
  abbrev SetNow : Savepoint → Type 0
  SetNow kept = (name : List ℕ) × (binds : List Value) × Requests state call (savepoint name) binds × (kept ≡ record { name = name; own = (session_at state session).own })

  answer_stay : (r : Request) → request_of state.start.schema call ≡ r → let view = view_of state session (table_in r) in Stay view SetNow (answer state.start.schema view state.next_values state.next_row r)
  answer_stay (connect service) is =
      let view = view_of state session None in
      unless_stay view SetNow [] (connect_fault view service) (record (unchanged view (reply_of Connected [] None)) { rights = service }) (λ x there. inl there)
  answer_stay disconnect is =
      let view = view_of state session None in
      unless_stay view SetNow [] (disconnect_fault view) (ended None Disconnected) (all_drop view SetNow)
  answer_stay unreadable is = λ x there. inl there
  answer_stay (unsound table fault) is = λ x there. inl there
  answer_stay (statement plan binds) is =
      let view = view_of state session (table_in (statement plan binds)) in
      let env : Environment = record { level = state.start.schema.level; binds = binds } in
      unless_stay view SetNow [] (statement_fault view plan) (executed state.start.schema view state.next_values state.next_row env plan)
      (executed_stay view SetNow state.start.schema state.next_values state.next_row env plan (λ name same. (
        name,
        binds,
        is ∙ ap (λ (p : Plan ℕ). statement p binds) same,
        ap (λ (own : Transaction). record { name = name; own = own }) (view_own state session (table_in (statement plan binds))),
      )))

pub savepoints_stay : SavepointsStay
savepoints_stay state session call kept there = elim (cases_lt session (length state.sessions)) [
  | inl within ↦ (
      let request = request_of state.start.schema call in
      let now : Contains (answer_in state session call).savepoints kept = subst (λ (s : Session). Contains s.savepoints kept) (left_at state session call within) there in
      subst (λ (l : List Savepoint). Contains l kept ⊎ SetNow state session call kept) (view_savepoints state session (table_in request)) (answer_stay state session call request refl kept now))
  | inr past ↦ absurd (Contains-none kept (subst (λ (s : Session). Contains s.savepoints kept) (beyond_at state session call past) there))
]
