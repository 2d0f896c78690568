use Rattle.std.proofs.Common.{◌≡◌, ◌++◌, drop}
use Rattle.sql_eval.specs.Totals.{looked_at}
use Rattle.visited_rows.specs.ByKey.{of_key}
use Rattle.visited_rows.proofs.basis.of_key.Given as goal

abbrev pub invariant-loop-image : goal.invariant-loop-image
invariant-loop-image l = looked_at l.found.items ++ of_key l.with.level l.key (looked_at (drop l.image-index l.rows)) ≡ of_key l.with.level l.key (looked_at l.rows)
