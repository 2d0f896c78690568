-- What commits wrote to a table.
use Rattle.std.specs.Prelude.{ℕ, ◌≤◌, List, [], ◌∷◌, map, Option}
use Rattle.desk_values.specs.declared.value.Image.{Image}
use Rattle.row_versions.specs.History.{History, Written, left_of, row_at}
use Rattle.twin_tables.specs.declared.ledger.Change.{Change}

abbrev pub nothing_written : History
nothing_written = record { list = []; floor = 0 }

-- the row's last image with a number up to this one, where it is not gone
abbrev pub told : List Written → ℕ → ℕ → Option Image
told list number row = left_of (row_at list row number)

-- which row was written, and by which commit
abbrev pub change_of : Written → Change
change_of written = record { number = written.number; row = written.image.row }

abbrev pub changes_of : List Written → List Change
changes_of list = map change_of list

-- the numbers of commits rise, or stay
abbrev pub NumbersRise : ℕ → List Written → Type 0
NumbersRise low [] = Unit {0}
NumbersRise low (written ∷ rest) = (low ≤ written.number) × NumbersRise written.number rest
