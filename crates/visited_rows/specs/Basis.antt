-- What a statement on a table can depend on, as it is kept.
use Rattle.std.specs.Prelude.{◌++◌, ◌≡◌, true, false, List, [], map, length}
use Rattle.visited_rows.specs.declared.basis.Basis.{Basis}
use Rattle.server_words.specs.View.{View, plain_view, rows_seen, with_table}
use Rattle.desk_values.specs.declared.value.Image.{Image}
use Rattle.machine_stores.specs.Holds.{IsBeside}
use Rattle.machine_stores.specs.Tables.{AreTold, count_seen}
use Rattle.server_words.specs.Rows.{IsRising, row_key}
use Rattle.server_words.specs.Writes.{repeats_key}
use Rattle.machine_stores.specs.Index.{AreIndexes}

-- the view of what a statement can depend on
abbrev pub view_of_basis : Basis → View
view_of_basis basis = with_table (plain_view basis.session.now)
    (basis.others.before.now ++ basis.others.after.now) basis.table
    (rows_seen basis.start.now basis.commits.now basis.session.now basis.table)

-- what a statement can depend on, as a machine keeps it
pub record IsBasis (basis : Basis) : Type 0 where
  pub rising : IsRising basis.start.now
  pub told : AreTold (count_seen basis.session.now.snapshot (length basis.commits.now)) basis.start.now basis.commits.now basis.versions.now
  pub indexed : AreIndexes basis.indexes.now basis.versions.now (length basis.commits.now) []
  pub beside : IsBeside basis.others
  pub differ : basis.keys_differ ≡ true
      → repeats_key basis.level (map row_key (rows_seen basis.start.now basis.commits.now basis.session.now basis.table)) ≡ false

-- a table's rows as the session sees them
abbrev pub rows_of_basis : Basis → List Image
rows_of_basis basis = rows_seen basis.start.now basis.commits.now basis.session.now basis.table
