-- What a transaction that only reads sees.
use Rattle.std.specs.Prelude.{◌≡◌, ◌≤◌, ◌<◌, ℕ, Bool, true, false, List, [], ◌∷◌, length, Option, None, Some, IsSomeAnd}
use Rattle.std.specs.List.{AllByRecursion}
use Rattle.desk_values.specs.declared.call.Call.{Call}
use Rattle.desk_values.specs.declared.call.Outcome.{Outcome}
use Rattle.desk_values.specs.declared.call.Outcome.TheVariants.{Committed, RolledBack, Disconnected, Marked}
use Rattle.desk_values.specs.declared.value.Image.{Image}
use Rattle.desk_values.specs.declared.value.Value.{Value}
use Rattle.desk_schema.specs.Start.{StartView}
use Rattle.sql_tree.specs.declared.tree.Key.{Key}
use Rattle.sql_tree.specs.Plain.{Asked, Plan, Term, rollback_to, select, set_read_only}
use Rattle.server_words.specs.declared.session.Savepoint.{Savepoint}
use Rattle.server_words.specs.declared.session.Session.{Session}
use Rattle.server_words.specs.Request.{request_of, statement}
use Rattle.server_words.specs.State.{State, is_connected, opening, session_at}
use Rattle.server_words.specs.Step.{reply_in, run, step}
use Rattle.server_words.specs.View.{rows_seen}

-- a table's rows as the session sees them in this state
abbrev pub rows_in : State → ℕ → ℕ → List Image
rows_in state session table = rows_seen state.start.rows state.commits (session_at state session) table

-- each savepoint keeps just what the session has
abbrev pub KeepsWhatItHas : Session → Type 0
KeepsWhatItHas session = AllByRecursion (λ (kept : Savepoint). kept.own ≡ session.own) session.savepoints

-- the session is connected, and its transaction only reads, at a commit that there is, and has what it had at its savepoints
pub record IsReading (state : State) (session : ℕ) : Type 0 where
  pub connected : is_connected state session ≡ true
  pub commit : IsSomeAnd (session_at state session).snapshot (λ n. n ≤ length state.commits)
  pub kept : KeepsWhatItHas (session_at state session)

-- a call that is answered so ends its session's transaction, or goes back in it to a savepoint
abbrev pub ends_transaction : Outcome → Bool
ends_transaction (Committed images) = true
ends_transaction RolledBack = true
ends_transaction Disconnected = true
ends_transaction other = false

-- the call's text is this statement, and passes the checks with these binds
abbrev pub Requests : State → Call → Plan ℕ → List Value → Type 0
Requests state call plan binds = request_of state.start.schema call ≡ statement plan binds

-- the call goes back to a savepoint
abbrev pub GoesBack : State → Call → Type 0
GoesBack state call = (name : List ℕ) × (binds : List Value) × Requests state call (rollback_to name) binds

-- no call of the session ends its transaction on the way, whatever the other sessions do; it may go back to savepoints
abbrev pub StaysOpen : State → ℕ → List (ℕ × Call) → Type 0
StaysOpen state session [] = Unit {0}
StaysOpen state session (call ∷ calls) =
    (call.0 ≡ session → ends_transaction (reply_in state call.0 call.1).outcome ≡ true → GoesBack state call.1)
    × StaysOpen (step state call.0 call.1) session calls

-- and it does not go back either
abbrev pub OnlyGoesOn : State → ℕ → List (ℕ × Call) → Type 0
OnlyGoesOn state session [] = Unit {0}
OnlyGoesOn state session (call ∷ calls) =
    (call.0 ≡ session → ends_transaction (reply_in state call.0 call.1).outcome ≡ false)
    × OnlyGoesOn (step state call.0 call.1) session calls

-- in each state that the server comes to, a session with a snapshot is one that reads
abbrev pub SnapshotsAreWithin : Type 0
SnapshotsAreWithin = (start : StartView) (calls : List (ℕ × Call)) (session n : ℕ)
    → (session_at (run (opening start) calls) session).snapshot ≡ Some n → IsReading (run (opening start) calls) session

-- a session that is told that its transaction only reads is one that reads from there on, at the last commit that there is
abbrev pub MarkedSessionsRead : Type 0
MarkedSessionsRead = (state : State) (session : ℕ) (call : Call) (binds : List Value) → session < length state.sessions
    → Requests state call set_read_only binds → (reply_in state session call).outcome ≡ Marked
    → IsReading (step state session call) session
    × ((session_at (step state session call) session).snapshot ≡ Some (length state.commits))

-- and no session comes to read but so
abbrev pub OnlyMarkedSessionsRead : Type 0
OnlyMarkedSessionsRead = (state : State) (session by n : ℕ) (call : Call) → (session_at state session).snapshot ≡ None
    → (session_at (step state by call) session).snapshot ≡ Some n
    → (by ≡ session) × ((reply_in state by call).outcome ≡ Marked) × ((binds : List Value) × Requests state call set_read_only binds)

-- the session is as it was, but for its savepoints
pub record IsLeftButMarks (before after : Session) : Type 0 where
  pub rights : after.rights ≡ before.rights
  pub snapshot : after.snapshot ≡ before.snapshot
  pub own : after.own ≡ before.own

-- a session that reads is left as it was, but for its savepoints, while its transaction goes on, also where it goes back to one,
-- and reads on
abbrev pub ReadersAreLeft : Type 0
ReadersAreLeft = (state : State) (session : ℕ) (calls : List (ℕ × Call)) → IsReading state session → StaysOpen state session calls
    → IsLeftButMarks (session_at state session) (session_at (run state calls) session) × IsReading (run state calls) session

-- and it sees the same rows of each table
abbrev pub ReadersSeeTheSame : Type 0
ReadersSeeTheSame = (state : State) (session table : ℕ) (calls : List (ℕ × Call))
    → IsReading state session → StaysOpen state session calls
    → rows_in (run state calls) session table ≡ rows_in state session table

-- so each SELECT that locks no row is answered the same
abbrev pub ReadersAreAnsweredTheSame : Type 0
ReadersAreAnsweredTheSame = (state : State) (session : ℕ) (calls : List (ℕ × Call)) (call : Call) (table : ℕ)
    → (asked : Asked ℕ) (condition : Option (Term ℕ)) (keys : List (Key ℕ)) (binds : List Value)
    → IsReading state session → StaysOpen state session calls
    → Requests state call (select table asked condition keys false) binds
    → reply_in (run state calls) session call ≡ reply_in state session call
