-- What a savepoint keeps, and what going back to it leaves.
use Rattle.std.specs.Prelude.{◌≡◌, ◌⊎◌, ◌<◌, ℕ, true, false, List, [], ◌∷◌, ◌++◌, length}
use Rattle.std.specs.List.{AllByRecursion, Contains}
use Rattle.desk_values.specs.declared.call.Call.{Call}
use Rattle.desk_values.specs.declared.call.Outcome.TheVariants.{RolledBack}
use Rattle.desk_values.specs.declared.value.Value.{Value}
use Rattle.desk_schema.specs.Start.{StartView}
use Rattle.sql_tree.specs.Plain.{savepoint, rollback_to}
use Rattle.server_words.specs.declared.session.Savepoint.{Savepoint}
use Rattle.server_words.specs.declared.session.Transaction.{Transaction}
use Rattle.server_words.specs.Savepoints.{without}
use Rattle.server_words.specs.State.{State, opening, session_at}
use Rattle.server_words.specs.Step.{reply_in, run, step}
use Rattle.law_steps.specs.Holding.{IsNoRefusal}
use Rattle.law_steps.specs.Reading.{GoesBack, Requests, ends_transaction}

-- none of the savepoints has this name
abbrev pub NoneIsNamed : List ℕ → List Savepoint → Type 0
NoneIsNamed name savepoints = AllByRecursion (λ (other : Savepoint). ¬ (other.name ≡ name)) savepoints

-- what the session has of its own is kept last, in the place of what was kept under the name before; else the session is as it was
abbrev pub SavepointsKeep : Type 0
SavepointsKeep = (state : State) (session : ℕ) (call : Call) (name : List ℕ) (binds : List Value) → session < length state.sessions
    → Requests state call (savepoint name) binds → IsNoRefusal (reply_in state session call).outcome
    → let before = session_at state session in
    session_at (step state session call) session
    ≡ record before { savepoints = without name before.savepoints ++ record { name = name; own = before.own } ∷ [] }

-- the session has again what it had where the savepoint was set, which stays, and those after it are dropped; else it is as it was
abbrev pub GoingBackRestores : Type 0
GoingBackRestores = (state : State) (session : ℕ) (call : Call) (name : List ℕ) (binds : List Value) (own : Transaction)
    → (front behind : List Savepoint) → session < length state.sessions
    → Requests state call (rollback_to name) binds → IsNoRefusal (reply_in state session call).outcome
    → let before = session_at state session in
    before.savepoints ≡ front ++ record { name = name; own = own } ∷ behind
    → NoneIsNamed name front
    → session_at (step state session call) session
    ≡ record before { own = own; savepoints = front ++ record { name = name; own = own } ∷ [] }

-- what a savepoint keeps stays as it is: each that a session has after its call it had before, or the call sets it
abbrev pub SavepointsStay : Type 0
SavepointsStay = (state : State) (session : ℕ) (call : Call) (kept : Savepoint)
    → Contains (session_at (step state session call) session).savepoints kept
    → Contains (session_at state session).savepoints kept
    ⊎ ((name : List ℕ) × (binds : List Value) × Requests state call (savepoint name) binds
    × (kept ≡ record { name = name; own = (session_at state session).own }))

-- any other statement leaves the savepoints as they are, unless it ends the transaction
abbrev pub OthersLeaveSavepoints : Type 0
OthersLeaveSavepoints = (state : State) (session : ℕ) (call : Call)
    → ((name : List ℕ) (binds : List Value) → ¬ Requests state call (savepoint name) binds)
    → ends_transaction (reply_in state session call).outcome ≡ false
    → (session_at (step state session call) session).savepoints ≡ (session_at state session).savepoints

-- SAVEPOINT and ROLLBACK TO change sessions alone: they commit nothing, make no row, and draw nothing or give it back
abbrev pub SavepointsLeaveTheRest : Type 0
SavepointsLeaveTheRest = (state : State) (session : ℕ) (call : Call) (name : List ℕ) (binds : List Value)
    → Requests state call (savepoint name) binds ⊎ Requests state call (rollback_to name) binds
    → step state session call ≡ record state { sessions = (step state session call).sessions }

-- ---- names

-- no two of the savepoints have one name
abbrev pub NamesDiffer : List Savepoint → Type 0
NamesDiffer [] = Unit {0}
NamesDiffer (first ∷ others) = NoneIsNamed first.name others × NamesDiffer others

-- so it is of each session, whatever calls came before
abbrev pub SavepointNamesDiffer : Type 0
SavepointNamesDiffer = (start : StartView) (calls : List (ℕ × Call)) (session : ℕ)
    → NamesDiffer (session_at (run (opening start) calls) session).savepoints

-- a server of version 1 has no savepoints at all
abbrev pub OldServersHaveNoSavepoint : Type 0
OldServersHaveNoSavepoint = (start : StartView) (calls : List (ℕ × Call)) (session : ℕ) → start.schema.version ≡ 1
    → (session_at (run (opening start) calls) session).savepoints ≡ []

-- ---- from a savepoint on to where a session goes back to it

-- the call leaves the savepoint of this name, and these that are older: it sets none of them anew, goes back to no older one, and
-- does not end the transaction
pub record GoesOnBehind (name : List ℕ) (older : List Savepoint) (state : State) (session : ℕ) (call : Call) : Type 0 where
  pub sets : (other : List ℕ) (binds : List Value) → Requests state call (savepoint other) binds
      → (¬ (name ≡ other)) × NoneIsNamed other older
  pub back : (other : List ℕ) (binds : List Value) → Requests state call (rollback_to other) binds → NoneIsNamed other older
  pub ends : ends_transaction (reply_in state session call).outcome ≡ true → GoesBack state call

-- so does each of the session's calls, whatever the other sessions do
abbrev pub StaysBehind : List ℕ → List Savepoint → State → ℕ → List (ℕ × Call) → Type 0
StaysBehind name older state session [] = Unit {0}
StaysBehind name older state session (call ∷ calls) =
    (call.0 ≡ session → GoesOnBehind name older state call.0 call.1)
    × StaysBehind name older (step state call.0 call.1) session calls

-- whatever its session does behind a SAVEPOINT but for that: going back to it is not refused, and the session is again what the
-- SAVEPOINT left
abbrev pub StretchesAreUndone : Type 0
StretchesAreUndone = (state : State) (session : ℕ) (call back : Call) (name : List ℕ) (binds others : List Value)
    → (calls : List (ℕ × Call)) → session < length state.sessions
    → NamesDiffer (session_at state session).savepoints
    → Requests state call (savepoint name) binds → IsNoRefusal (reply_in state session call).outcome
    → let marked = step state session call in
    let there = run marked calls in
    StaysBehind name (without name (session_at state session).savepoints) marked session calls
    → Requests there back (rollback_to name) others
    → ((reply_in there session back).outcome ≡ RolledBack)
    × (session_at (step there session back) session ≡ session_at marked session)
