-- What a call can depend on.
use Rattle.std.specs.Prelude.{ℕ, ◌+◌, Bool, nat_eq, if◌then◌else◌, List, [], ◌++◌, map, take, drop, Option, None, Some, is_some}
use Rattle.std.specs.List.{filter, filter_map, flat_map, list_any}
use Rattle.desk_values.specs.declared.value.Value.{Value}
use Rattle.desk_values.specs.declared.value.Image.{Image}
use Rattle.desk_schema.specs.declared.schema.Rights.{Rights}
use Rattle.server_words.specs.declared.session.Session.{Session}
use Rattle.server_words.specs.declared.session.Transaction.{Transaction}
use Rattle.server_words.specs.declared.session.Savepoint.{Savepoint}
use Rattle.server_words.specs.declared.session.HeldKey.{HeldKey}
use Rattle.server_words.specs.Rows.{lay, lay_all, of_table}
use Rattle.server_words.specs.State.{State, session_at}

pub record View : Type 0 where
  -- the session's rights, none where it is not connected
  pub rights : Option Rights
  -- its transaction only reads
  pub reads_only : Bool
  -- its own changes, and the rows and keys that it holds
  pub own : Transaction
  -- its savepoints, the oldest first
  pub savepoints : List Savepoint
  -- where the call is a statement on a table, that table's rows as the session sees them
  pub rows : List Image
  -- those of them that another session holds
  pub locked : List Image
  -- the keys of that table that another session holds
  pub locked_keys : List Value

-- the commits that a session sees: all, or those up to the number that it reads at
abbrev pub commits_seen : Option ℕ → List (List Image) → List (List Image)
commits_seen None commits = commits
commits_seen (Some n) commits = take n commits

-- a table's rows as a session sees them: the start's, with the commits that it sees and then its own changes laid over them
abbrev pub rows_seen : List Image → List (List Image) → Session → ℕ → List Image
rows_seen start commits session table =
    lay (lay_all (of_table table start) (map (of_table table) (commits_seen session.snapshot commits))) (of_table table session.own.changes)

-- the other sessions
abbrev pub others : List Session → ℕ → List Session
others sessions session = take session sessions ++ drop (session + 1) sessions

abbrev pub holds_row : ℕ → Session → Bool
holds_row row session = list_any (nat_eq row) session.own.rows

-- one of the sessions holds the row
abbrev pub is_held : List Session → Image → Bool
is_held sessions image = list_any (holds_row image.row) sessions

abbrev pub key_of_table : ℕ → HeldKey → Option Value
key_of_table table held = if nat_eq held.table table then Some held.key else None

-- the keys of a table that the sessions hold
abbrev pub keys_held : List Session → ℕ → List Value
keys_held sessions table = flat_map (λ (s : Session). filter_map (key_of_table table) s.own.keys) sessions

-- the view without a table
abbrev pub plain_view : Session → View
plain_view session = record { rights = session.rights; reads_only = is_some session.snapshot; own = session.own; savepoints = session.savepoints; rows = []; locked = []; locked_keys = [] }

-- and with the rows of one
abbrev pub with_table : View → List Session → ℕ → List Image → View
with_table view sessions table rows = record view { rows = rows; locked = filter (is_held sessions) rows; locked_keys = keys_held sessions table }

-- the view of a session whose call is a statement on this table, or on none
abbrev pub view_of : State → ℕ → Option ℕ → View
view_of state session None = plain_view (session_at state session)
view_of state session (Some table) =
    let mine = session_at state session in
    with_table (plain_view mine) (others state.sessions session) table (rows_seen state.start.rows state.commits mine table)
