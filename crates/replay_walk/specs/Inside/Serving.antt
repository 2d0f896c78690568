-- Servers with what their commits wrote. Words of private clauses; they need not be believed.
use Rattle.std.specs.Prelude.{◌≡◌, ℕ, ◌<◌, ◌≤◌, List, length, take, slice_index_or}
use Rattle.machine_stores.specs.Tables.{AreTold}
use Rattle.id_pairs.specs.Pairs.{IdPair}
use Rattle.row_versions.specs.History.{History, Written}
use Rattle.twin_tables.specs.declared.differences.Differences.{Differences}
use Rattle.twin_tables.specs.Differences.{Follows}
use Rattle.twin_tables.specs.Ledger.{nothing_written}
use Rattle.replay_walk.specs.declared.server.Server.{Server}

-- the ledgers tell the rows of its tables after each number of commits
abbrev pub IsTelling : Server → Type 0
IsTelling server = AreTold 0 server.engine.state.start.rows server.engine.state.commits server.ledgers.items

abbrev pub list_in : List History → ℕ → List Written
list_in ledgers table = (slice_index_or ledgers table nothing_written).list

-- what is kept is right, and stands at no later commits than there are
pub record IsKept (pairs : List IdPair) (captured : List Written) (captured_count : ℕ) (replayed : List Written) (replayed_count : ℕ) (d : Differences) : Type 0 where
  pub follows : Follows pairs captured replayed d
  pub captured_at : d.captured_at ≤ captured_count
  pub replayed_at : d.replayed_at ≤ replayed_count

-- what is kept of a table stays right, of whichever of the two servers this is
abbrev pub StaysKept : Server → Server → ℕ → Type 0
StaysKept old new table =
    (pairs : List IdPair) (other : List Written) (n : ℕ) (d : Differences)
    → (IsKept pairs (list_in old.ledgers.items table) (length old.engine.state.commits) other n d
    → IsKept pairs (list_in new.ledgers.items table) (length new.engine.state.commits) other n d)
    × (IsKept pairs other n (list_in old.ledgers.items table) (length old.engine.state.commits) d
    → IsKept pairs other n (list_in new.ledgers.items table) (length new.engine.state.commits) d)

-- the server went on
pub record GoesOn (old new : Server) : Type 0 where
  pub count : length new.ledgers.items ≡ length old.ledgers.items
  pub more : length old.engine.state.commits ≤ length new.engine.state.commits
  pub front : (n : ℕ) → n ≤ length old.engine.state.commits → take n new.engine.state.commits ≡ take n old.engine.state.commits
  pub kept : (table : ℕ) → table < length old.ledgers.items → StaysKept old new table
