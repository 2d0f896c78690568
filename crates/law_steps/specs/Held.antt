-- What another session holds is neither changed nor locked.
use Rattle.std.specs.Prelude.{◌≡◌, ◌⊎◌, ◌≤◌, ℕ, true, List, Option}
use Rattle.std.specs.List.{Any, Contains}
use Rattle.desk_values.specs.declared.call.Call.{Call}
use Rattle.desk_values.specs.declared.call.Outcome.{Outcome}
use Rattle.desk_values.specs.declared.call.Outcome.TheVariants.{Refused}
use Rattle.desk_values.specs.declared.fault.Fault.TheVariants.{Locked}
use Rattle.desk_values.specs.declared.value.Image.{Image}
use Rattle.desk_values.specs.declared.value.Value.{Value}
use Rattle.desk_values.specs.Comparison.{same_key}
use Rattle.desk_values.specs.Fault.{fault_rank}
use Rattle.desk_schema.specs.Schema.{columns_of}
use Rattle.sql_tree.specs.Plain.{Term, Entry, Change, Plan, select, insert, update, delete}
use Rattle.server_words.specs.declared.session.HeldKey.{HeldKey}
use Rattle.server_words.specs.Answer.{new_row}
use Rattle.server_words.specs.Draws.{draws_of}
use Rattle.server_words.specs.Found.{Environment, matches}
use Rattle.server_words.specs.Rows.{row_key}
use Rattle.server_words.specs.State.{State, session_at}
use Rattle.server_words.specs.Step.{reply_in}
use Rattle.server_words.specs.Writes.{moves_key, updated}
use Rattle.law_steps.specs.Reading.{Requests, rows_in}

-- refused since another session holds what it takes, or for a fault that is told before that one
abbrev pub IsRefusedAsHeld : Outcome → Type 0
IsRefusedAsHeld (Refused fault) = fault_rank fault ≤ fault_rank Locked
IsRefusedAsHeld other = ⊥

abbrev pub environment : State → List Value → Environment
environment state binds = record { level = state.start.schema.level; binds = binds }

-- the session sees this row in the table, and it matches
pub record SeesMatch (state : State) (session table : ℕ) (env : Environment) (condition : Option (Term ℕ))
    (image : Image) : Type 0 where
  pub seen : Contains (rows_in state session table) image
  pub matches : matches env condition image ≡ true

-- the session's statement would lock, change or delete this row
abbrev pub Takes : State → ℕ → Environment → Plan ℕ → Image → Type 0
Takes state session env (select table asked condition keys true) image = SeesMatch state session table env condition image
Takes state session env (update table changes condition) image = SeesMatch state session table env condition image
Takes state session env (delete table condition) image = SeesMatch state session table env condition image
Takes state session env other image = ⊥

abbrev pub HoldsRow : State → ℕ → ℕ → Type 0
HoldsRow state session row = Contains (session_at state session).own.rows row

-- the key is held in this table, and the same as this one at the level
abbrev pub IsKey : ℕ → ℕ → Value → HeldKey → Type 0
IsKey level table key held = (held.table ≡ table) × (same_key level key held.key ≡ true)

-- the session holds a key of the table that is the same as this one at the level
abbrev pub HoldsKey : State → ℕ → ℕ → Value → Type 0
HoldsKey state session table key = Any (IsKey state.start.schema.level table key) (session_at state session).own.keys

-- a row that another session holds is neither locked, nor changed, nor deleted
abbrev pub HeldRowsAreRefused : Type 0
HeldRowsAreRefused = (state : State) (session other : ℕ) (call : Call) (plan : Plan ℕ) (binds : List Value) (image : Image)
    → ¬ (other ≡ session) → Requests state call plan binds
    → Takes state session (environment state binds) plan image → HoldsRow state other image.row
    → IsRefusedAsHeld (reply_in state session call).outcome

-- the row that an INSERT would make
abbrev pub row_to_insert : State → List Value → ℕ → Option (List ℕ) → List (Entry ℕ) → Image
row_to_insert state binds table named entries =
    let draws = draws_of (insert table named entries) state.next_values in
    new_row (environment state binds) (columns_of state.start.schema.tables table) draws state.next_row table named entries

-- a new row with a key that another session holds
abbrev pub HeldKeysAreNotInserted : Type 0
HeldKeysAreNotInserted = (state : State) (session other : ℕ) (call : Call) (table : ℕ) (named : Option (List ℕ))
    → (entries : List (Entry ℕ)) (binds : List Value) → ¬ (other ≡ session)
    → Requests state call (insert table named entries) binds
    → HoldsKey state other table (row_key (row_to_insert state binds table named entries))
    → IsRefusedAsHeld (reply_in state session call).outcome

-- a row that gets another key, which another session holds
abbrev pub HeldKeysAreNotSet : Type 0
HeldKeysAreNotSet = (state : State) (session other : ℕ) (call : Call) (table : ℕ) (changes : List (Change ℕ))
    → (condition : Option (Term ℕ)) (binds : List Value) (image : Image) → ¬ (other ≡ session)
    → Requests state call (update table changes condition) binds
    → SeesMatch state session table (environment state binds) condition image
    → moves_key (environment state binds) changes image ≡ true
    → HoldsKey state other table (row_key (updated (environment state binds) changes image))
    → IsRefusedAsHeld (reply_in state session call).outcome

-- the session's statement would give a row of the table this key
abbrev pub GivesKey : State → ℕ → List Value → Plan ℕ → ℕ → Value → Type 0
GivesKey state session binds (insert table named entries) of key =
    (of ≡ table) × (key ≡ row_key (row_to_insert state binds table named entries))
GivesKey state session binds (update table changes condition) of key = (of ≡ table)
    × (image : Image) × SeesMatch state session table (environment state binds) condition image
    × (moves_key (environment state binds) changes image ≡ true) × (key ≡ row_key (updated (environment state binds) changes image))
GivesKey state session binds other of key = ⊥

-- the session holds a row that the statement takes, or a key that it gives a row
abbrev pub StandsInTheWay : State → ℕ → List Value → Plan ℕ → ℕ → Type 0
StandsInTheWay state session binds plan other =
    ((image : Image) × Takes state session (environment state binds) plan image × HoldsRow state other image.row)
    ⊎ ((table : ℕ) × (key : Value) × GivesKey state session binds plan table key × HoldsKey state other table key)

-- refused as locked is a statement only where another session stands in its way
abbrev pub LockedMeansHeld : Type 0
LockedMeansHeld = (state : State) (session : ℕ) (call : Call) (plan : Plan ℕ) (binds : List Value) → Requests state call plan binds
    → (reply_in state session call).outcome ≡ Refused Locked
    → (other : ℕ) × (¬ (other ≡ session)) × StandsInTheWay state session binds plan other
