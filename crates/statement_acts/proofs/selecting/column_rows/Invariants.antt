use Rattle.std.proofs.Common.{◌≡◌, ◌++◌, drop, map}
use Rattle.sql_eval.specs.Totals.{looked_at, values_in}
use Rattle.statement_acts.proofs.selecting.column_rows.Given as goal

abbrev pub invariant-loop-image : goal.invariant-loop-image
invariant-loop-image l = l.rows ++ map values_in (looked_at (drop l.image-index l.found)) ≡ map values_in (looked_at l.found)
