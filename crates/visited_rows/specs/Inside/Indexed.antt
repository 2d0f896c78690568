-- Rows that are found by their keys, and the changes that are laid over them.
use Rattle.std.specs.Prelude.{not, List, [], ◌∷◌, length, Option, None, Some}
use Rattle.std.specs.List.{filter}
use Rattle.desk_values.specs.declared.value.Image.{Image}
use Rattle.visited_rows.specs.declared.basis.Basis.{Basis}
use Rattle.visited_rows.specs.declared.basis.Indexed.{Indexed}
use Rattle.sql_eval.specs.Totals.{looked_at}
use Rattle.server_words.specs.Rows.{row_at, IsRising}
use Rattle.machine_stores.specs.Inside.Tables.{IsAt}
use Rattle.machine_stores.specs.Tables.{rows_after}
use Rattle.server_words.specs.Writes.{is_among}
use Rattle.machine_stores.specs.Index.{FindsRows, row_under}

-- the rows that stay under changes
abbrev pub staying : List Image → List Image → List Image
staying rows changes = filter (λ (image : Image). not (is_among changes image)) rows

-- the same after all commits
abbrev pub committed_rows : Basis → List Image
committed_rows basis = rows_after basis.start.now basis.commits.now basis.table

-- rows that are found by their keys, and changes that rise
pub record IsIndexed (indexed : Indexed) : Type 0 where
  pub rows : IsRising (committed_rows indexed.basis)
  pub told : IsAt indexed.versions.now (length indexed.basis.commits.now) (committed_rows indexed.basis)
  pub changes : IsRising (looked_at indexed.changes.now)
  pub finds : FindsRows (row_under indexed.index.now) (λ row. row_at row (committed_rows indexed.basis)) []

-- a row that there may be, as a list
abbrev pub listed : Option Image → List Image
listed None = []
listed (Some image) = image ∷ []
