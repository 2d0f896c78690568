-- What a call stands on, but for the rows of its table: what its session has of its own, the commits that it reads, and what other
-- sessions hold.
use Rattle.std.specs.Prelude.{◌≡◌, ℕ, ◌≤◌, List, [], length, take, Option, None, Some}
use Rattle.std.specs.List.{flat_map}
use Rattle.std.specs.Ordering.{nat_cmp}
use Rattle.desk_values.specs.declared.value.Value.{Value}
use Rattle.desk_values.specs.Sorting.{kind_then_value}
use Rattle.machine_model.specs.declared.footing.Footing.{Footing}
use Rattle.server_words.specs.declared.session.Session.{Session}
use Rattle.server_words.specs.State.{State, session_at}
use Rattle.server_words.specs.View.{commits_seen, keys_held, others, view_of}
use Rattle.server_words.specs.Views.{AreOnce, IsViewOf}

-- the rows that the sessions hold
abbrev pub rows_held : List Session → List ℕ
rows_held sessions = flat_map (λ (s : Session). s.own.rows) sessions

-- the keys of a table that they hold, where there is a table
abbrev pub keys_held_in : List Session → Option ℕ → List Value
keys_held_in sessions None = []
keys_held_in sessions (Some table) = keys_held sessions table

-- this is handed out of a session of a server in this state, whose call is on this table or on none
pub record IsFootingOf (state : State) (session : ℕ) (table : Option ℕ) (handed : Footing) : Type 0 where
  pub own : IsViewOf (view_of state session None) handed.own
  -- as many commits as it reads
  pub commits : take handed.commits state.commits ≡ commits_seen (session_at state session).snapshot state.commits
  pub within : handed.commits ≤ length state.commits
  -- of any table
  pub held_rows : AreOnce nat_cmp (rows_held (others state.sessions session)) handed.held_rows
  pub held_keys : AreOnce kind_then_value (keys_held_in (others state.sessions session) table) handed.held_keys
