use Rattle.std.proofs.Common.{◌≡◌, ◌++◌}
use Rattle.row_versions.specs.History.{looked, seen_of}
use Rattle.row_versions.specs.Inside.Links.{all_left}
use Rattle.row_versions.proofs.Walking.{AreLast}
use Rattle.row_versions.proofs.versions.rows_of.Given as goal

abbrev pub invariant-loop-row : goal.invariant-loop-row
invariant-loop-row l = (looked l.rows.items ++ all_left (seen_of l.list) l.n l.row-iterator ≡ all_left (seen_of l.list) l.n l.last.entries) × AreLast l.list l.row-iterator
