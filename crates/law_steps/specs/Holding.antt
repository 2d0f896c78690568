-- What a session holds comes with its statements, stays while its transaction goes on, and ends with it.
use Rattle.std.specs.Prelude.{◌≡◌, ◌⊎◌, ◌<◌, ℕ, true, List, [], length, None, Option}
use Rattle.std.specs.List.{Contains}
use Rattle.desk_values.specs.declared.call.Call.{Call}
use Rattle.desk_values.specs.declared.call.Outcome.{Outcome}
use Rattle.desk_values.specs.declared.call.Outcome.TheVariants.{Refused}
use Rattle.desk_values.specs.declared.fault.Fault.{Fault}
use Rattle.desk_values.specs.declared.value.Image.{Image}
use Rattle.desk_values.specs.declared.value.Value.{Value}
use Rattle.desk_values.specs.declared.value.Value.TheVariants.{Null}
use Rattle.desk_values.specs.Comparison.{same_key}
use Rattle.sql_tree.specs.Plain.{Entry, Plan, delete, insert, update, rollback_to}
use Rattle.server_words.specs.declared.session.Savepoint.{Savepoint}
use Rattle.server_words.specs.declared.session.Transaction.{Transaction}
use Rattle.server_words.specs.Rows.{row_key}
use Rattle.server_words.specs.State.{State, nothing, session_at}
use Rattle.server_words.specs.Step.{reply_in, run, step}
use Rattle.server_words.specs.Writes.{moves_key}
use Rattle.law_steps.specs.Held.{GivesKey, HoldsKey, HoldsRow, SeesMatch, Takes, environment, row_to_insert}
use Rattle.law_steps.specs.Reading.{GoesBack, OnlyGoesOn, Requests, ends_transaction}

-- the call is not refused
abbrev pub IsNoRefusal : Outcome → Type 0
IsNoRefusal outcome = (fault : Fault) → ¬ (outcome ≡ Refused fault)

-- a row that a statement locks, changes or deletes is held afterwards
abbrev pub TakenRowsAreHeld : Type 0
TakenRowsAreHeld = (state : State) (session : ℕ) (call : Call) (plan : Plan ℕ) (binds : List Value) (image : Image)
    → session < length state.sessions → Requests state call plan binds → IsNoRefusal (reply_in state session call).outcome
    → Takes state session (environment state binds) plan image → HoldsRow (step state session call) session image.row

-- and so is a row that an INSERT makes
abbrev pub InsertedRowsAreHeld : Type 0
InsertedRowsAreHeld = (state : State) (session : ℕ) (call : Call) (table : ℕ) (named : Option (List ℕ))
    → (entries : List (Entry ℕ)) (binds : List Value) → session < length state.sessions
    → Requests state call (insert table named entries) binds → IsNoRefusal (reply_in state session call).outcome
    → HoldsRow (step state session call) session (row_to_insert state binds table named entries).row

-- the session's statement would take this key from a row of the table
abbrev pub TakesKey : State → ℕ → List Value → Plan ℕ → ℕ → Value → Type 0
TakesKey state session binds (update table changes condition) of key = (of ≡ table)
    × (image : Image) × SeesMatch state session table (environment state binds) condition image
    × (moves_key (environment state binds) changes image ≡ true) × (key ≡ row_key image)
TakesKey state session binds (delete table condition) of key = (of ≡ table)
    × (image : Image) × SeesMatch state session table (environment state binds) condition image × (key ≡ row_key image)
TakesKey state session binds other of key = ⊥

-- a key that a statement gives a row, or takes from one, is held afterwards
abbrev pub MovedKeysAreHeld : Type 0
MovedKeysAreHeld = (state : State) (session : ℕ) (call : Call) (plan : Plan ℕ) (binds : List Value) (table : ℕ) (key : Value)
    → session < length state.sessions → Requests state call plan binds → IsNoRefusal (reply_in state session call).outcome
    → ¬ (key ≡ Null) → GivesKey state session binds plan table key ⊎ TakesKey state session binds plan table key
    → HoldsKey (step state session call) session table key

-- the session has a savepoint of this name at which this was so
abbrev pub WasSoAt : State → ℕ → List ℕ → (Transaction → Type 0) → Type 0
WasSoAt state session name Was = (savepoint : Savepoint) × Contains (session_at state session).savepoints savepoint
    × (savepoint.name ≡ name) × Was savepoint.own

-- the session's statement would come to hold this row: one that it makes, or one that it locks, changes or deletes; or it goes
-- back to where it held it
abbrev pub BringsRow : State → ℕ → List Value → Plan ℕ → ℕ → Type 0
BringsRow state session binds (insert table named entries) row = row ≡ (row_to_insert state binds table named entries).row
BringsRow state session binds (rollback_to name) row = WasSoAt state session name (λ (own : Transaction). Contains own.rows row)
BringsRow state session binds other row =
    (image : Image) × Takes state session (environment state binds) other image × (row ≡ image.row)

-- a row that a session holds after its call it held before, or its statement brings it
abbrev pub NoOtherRowIsHeld : Type 0
NoOtherRowIsHeld = (state : State) (session row : ℕ) (call : Call) → HoldsRow (step state session call) session row
    → HoldsRow state session row
    ⊎ ((plan : Plan ℕ) × (binds : List Value) × Requests state call plan binds × BringsRow state session binds plan row)

-- the session's statement would come to hold this key: one that it gives a row or takes from one; or it goes back to where it held it
abbrev pub BringsKey : State → ℕ → List Value → Plan ℕ → ℕ → Value → Type 0
BringsKey state session binds (rollback_to name) of key =
    WasSoAt state session name (λ (own : Transaction). Contains own.keys (record { table = of; key = key }))
BringsKey state session binds other of key = GivesKey state session binds other of key ⊎ TakesKey state session binds other of key

-- a key that a session holds after its call it held before, or it is one with a key that its statement brings
abbrev pub NoOtherKeyIsHeld : Type 0
NoOtherKeyIsHeld = (state : State) (session table : ℕ) (key : Value) (call : Call)
    → HoldsKey (step state session call) session table key
    → HoldsKey state session table key
    ⊎ ((plan : Plan ℕ) × (binds : List Value) × (moved : Value) × Requests state call plan binds
    × (same_key state.start.schema.level key moved ≡ true) × BringsKey state session binds plan table moved)

-- what a session holds it holds as long as its transaction goes on and does not go back, whatever the calls do
abbrev pub HoldsStay : Type 0
HoldsStay = (state : State) (session : ℕ) (calls : List (ℕ × Call)) → OnlyGoesOn state session calls
    → ((row : ℕ) → HoldsRow state session row → HoldsRow (run state calls) session row)
    × ((table : ℕ) (key : Value) → HoldsKey state session table key → HoldsKey (run state calls) session table key)

-- where its transaction ends it has no change and no savepoint left, holds nothing, and reads the last commit again
abbrev pub EndedSessionsHoldNothing : Type 0
EndedSessionsHoldNothing = (state : State) (session : ℕ) (call : Call)
    → ends_transaction (reply_in state session call).outcome ≡ true → ¬ GoesBack state call
    → ((session_at (step state session call) session).own ≡ nothing)
    × ((session_at (step state session call) session).snapshot ≡ None)
    × ((session_at (step state session call) session).savepoints ≡ [])
