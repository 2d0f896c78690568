-- Who holds a row or a key, what a session sees, and rows of which no two have one key.
use Rattle.std.specs.Prelude.{◌≡◌, ◌⊎◌, ℕ, true, List, length, Some, is_some, IfSome, IsSomeAnd}
use Rattle.std.specs.List.{AllByRecursion, Any, Contains}
use Rattle.desk_values.specs.declared.value.Value.TheVariants.{Null}
use Rattle.desk_values.specs.declared.value.Image.{Image}
use Rattle.desk_values.specs.declared.call.Call.{Call}
use Rattle.desk_values.specs.declared.value.Value.{Value}
use Rattle.desk_schema.specs.File.{IsStart}
use Rattle.desk_values.specs.Comparison.{same_key}
use Rattle.desk_schema.specs.Rules.{key_in, key_of, keys_of}
use Rattle.desk_schema.specs.Sound.{AreApart}
use Rattle.desk_schema.specs.Start.{StartView}
use Rattle.server_words.specs.declared.session.HeldKey.{HeldKey}
use Rattle.server_words.specs.declared.session.Savepoint.{Savepoint}
use Rattle.server_words.specs.Rows.{lay, lay_all, of_table}
use Rattle.server_words.specs.State.{State, nothing, opening, session_at, tables}
use Rattle.server_words.specs.Step.{run}
use Rattle.server_words.specs.View.{commits_seen}
use Rattle.law_steps.specs.Held.{HoldsKey, HoldsRow}
use Rattle.law_steps.specs.Reading.{rows_in}

-- it holds of each state that the server comes to, whatever calls came before, from a start that keeps the rules
abbrev pub AfterAnyCalls : (State → Type 0) → Type 0
AfterAnyCalls Holds = (start : StartView) (calls : List (ℕ × Call)) → IsStart start → Holds (run (opening start) calls)

-- no row is held by two sessions
abbrev pub HoldRowsAlone : State → Type 0
HoldRowsAlone state = (one other row : ℕ) → HoldsRow state one row → HoldsRow state other row → one ≡ other

-- no key of a table is held by two sessions, whether they hold it as it is or another that is one with it at the level
abbrev pub HoldKeysAlone : State → Type 0
HoldKeysAlone state =
    (one other table : ℕ) (key : Value) → HoldsKey state one table key → HoldsKey state other table key → one ≡ other

-- each session holds the rows of which its changes have an image
abbrev pub HoldWhatTheyChange : State → Type 0
HoldWhatTheyChange state =
    (session : ℕ) → AllByRecursion (λ (image : Image). HoldsRow state session image.row) (session_at state session).own.changes

-- the row is the image's, and has this key at the level
abbrev pub IsItWithKey : ℕ → Image → Value → Image → Type 0
IsItWithKey level image key row =
    (row.row ≡ image.row) × IsSomeAnd (key_in image.table row) (λ old. same_key level old key ≡ true)

-- after all commits the image's row has this key
abbrev pub HasCommitted : State → Image → Value → Type 0
HasCommitted state image key = Any (IsItWithKey state.start.schema.level image key) (tables state (length state.commits))

-- each session holds the keys that its changes give rows, but the one that the row has after all commits
abbrev pub HoldTheKeysTheyGive : State → Type 0
HoldTheKeysTheyGive state =
    (session : ℕ) → AllByRecursion (λ (image : Image). IfSome image.left (λ values.
    HoldsKey state session image.table (key_of values) ⊎ HasCommitted state image (key_of values))) (session_at state session).own.changes

-- where a savepoint was set its session held nothing that it does not hold now
abbrev pub SavepointsHoldNoMore : State → Type 0
SavepointsHoldNoMore state = (session : ℕ) → let mine = session_at state session in
    AllByRecursion (λ (kept : Savepoint). ((row : ℕ) → Contains kept.own.rows row → Contains mine.own.rows row)
    × ((held : HeldKey) → Contains kept.own.keys held → Contains mine.own.keys held)) mine.savepoints

-- a transaction that only reads has changed nothing and holds nothing
abbrev pub ReadersHaveNothing : State → Type 0
ReadersHaveNothing state =
    (session : ℕ) → is_some (session_at state session).snapshot ≡ true → (session_at state session).own ≡ nothing

-- each session sees of a table what it has in the start with the commits that the session reads, and its own changes over them
abbrev pub SeesTables : State → Type 0
SeesTables state =
    (session table : ℕ) → let mine = session_at state session in
    rows_in state session table
    ≡ of_table table (lay (lay_all state.start.rows (commits_seen mine.snapshot state.commits)) mine.own.changes)

-- a session whose transaction only reads, at this number of commits, sees of each table what it had after so many
abbrev pub ReadersSeeTables : State → Type 0
ReadersSeeTables state =
    (session n table : ℕ) → (session_at state session).snapshot ≡ Some n
    → rows_in state session table ≡ of_table table (tables state n)

-- as in a start, no two rows of the table have one key at the level
abbrev pub HaveOwnKeys : ℕ → ℕ → List Image → Type 0
HaveOwnKeys level table rows = AreApart level (keys_of table rows)

-- after each number of commits no two rows of a table have one key
abbrev pub CommittedKeysDiffer : State → Type 0
CommittedKeysDiffer state = (commits table : ℕ) → HaveOwnKeys state.start.schema.level table (tables state commits)

-- no session sees two rows of a table that have one key
abbrev pub SeenKeysDiffer : State → Type 0
SeenKeysDiffer state = (session table : ℕ) → HaveOwnKeys state.start.schema.level table (rows_in state session table)

-- a row of this table that is not gone, and whose key is not Null
abbrev pub HasNonNullKey : ℕ → Image → Type 0
HasNonNullKey table row = IsSomeAnd (key_in table row) (λ key. ¬ (key ≡ Null))

-- so is each row after each number of commits, and each that a session sees of a table
pub record KeysAreThere (state : State) : Type 0 where
  pub committed : (commits : ℕ) → AllByRecursion (λ (row : Image). HasNonNullKey row.table row) (tables state commits)
  pub seen : (session table : ℕ) → AllByRecursion (HasNonNullKey table) (rows_in state session table)
