-- The state of the server.
use Rattle.std.specs.Prelude.{ℕ, Bool, true, ◌&&◌, ◌||◌, false, nat_le, nat_lt, List, [], take, replicate, slice_get, slice_index_or, Option, None, Some, is_some}
use Rattle.std.specs.List.{list_any}
use Rattle.desk_values.specs.Limits.{session_limit}
use Rattle.desk_values.specs.declared.value.Value.{Value}
use Rattle.desk_values.specs.declared.value.Value.TheVariants.{Row, Draw}
use Rattle.desk_values.specs.declared.value.Image.{Image}
use Rattle.desk_values.specs.Comparison.{same_key}
use Rattle.desk_values.specs.Ids.{ids_of_image}
use Rattle.desk_schema.specs.Start.{StartView}
use Rattle.server_words.specs.declared.session.Session.{Session}
use Rattle.server_words.specs.declared.session.Transaction.{Transaction}
use Rattle.server_words.specs.Rows.{lay_all}

pub record State : Type 0 where
  pub start : StartView
  -- what each numbered commit wrote, ascending by row; the first has number 1
  pub commits : List (List Image)
  -- the number of the next row that is made
  pub next_row : ℕ
  -- the next value of each sequence, by its number
  pub next_values : List ℕ
  -- the sessions by their numbers
  pub sessions : List Session

-- a transaction that is not under way
abbrev pub nothing : Transaction
nothing = record { changes = []; rows = []; keys = [] }

-- a session that is not connected
abbrev pub disconnected : Session
disconnected = record { rights = None; snapshot = None; own = nothing; savepoints = [] }

-- nothing is committed, nobody is connected
abbrev pub opening : StartView → State
opening start = record { start = start; commits = []; next_row = start.next_row; next_values = start.next_values; sessions = replicate session_limit disconnected }

abbrev pub session_at : State → ℕ → Session
session_at state session = slice_index_or state.sessions session disconnected

abbrev pub is_connected : State → ℕ → Bool
is_connected state session = is_some (session_at state session).rights

-- the tables after so many commits: the start's rows with those commits laid over them
abbrev pub tables : State → ℕ → List Image
tables state n = lay_all state.start.rows (take n state.commits)

-- ---- which ids were given

-- the id stands in the rows: as a row's number or among its values (ids are the same key at each level)
abbrev pub stands_in : List Image → Value → Bool
stands_in rows id = list_any (λ (image : Image). list_any (same_key 1 id) (ids_of_image image)) rows

-- a number from the first on and below the second
abbrev pub is_between : Option ℕ → Option ℕ → ℕ → Bool
is_between (Some first) (Some end) n = nat_le first n && nat_lt n end
is_between other end n = false

-- the value is no id, or one of the start's rows, or one that was drawn or made since
abbrev pub is_given : State → Value → Bool
is_given state (Row n) = stands_in state.start.rows (Row n) || is_between (Some state.start.next_row) (Some state.next_row) n
is_given state (Draw q n) = stands_in state.start.rows (Draw q n) || is_between (slice_get state.start.next_values q) (slice_get state.next_values q) n
is_given state other = true
