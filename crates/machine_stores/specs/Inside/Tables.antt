-- Rows at a number, and versions that are taken out again.
use Rattle.std.specs.Prelude.{◌≡◌, ℕ, ◌<◌, ◌≤◌, List, [], length, slice_index_or}
use Rattle.desk_values.specs.declared.value.Image.{Image}
use Rattle.row_versions.specs.History.{History, up_to}
use Rattle.server_words.specs.Rows.{row_at}
use Rattle.machine_stores.specs.Tables.{told_at}

-- they tell these rows at a number, by which reads may go
pub record IsAt (history : History) (number : ℕ) (rows : List Image) : Type 0 where
  pub floor : history.floor ≤ number
  pub each : (row : ℕ) → told_at history.list number row ≡ row_at row rows

abbrev pub no_versions : History
no_versions = record { list = []; floor = 0 }

-- those with a number over this one are taken out
pub record IsCut (number : ℕ) (old new : History) : Type 0 where
  pub list : new.list ≡ up_to number old.list
  pub floor : new.floor ≡ old.floor

-- the same of tables
pub record AreCut (number : ℕ) (old new : List History) : Type 0 where
  pub count : length new ≡ length old
  pub each : (table : ℕ) (h : History) → table < length old → IsCut number (slice_index_or old table h) (slice_index_or new table h)
