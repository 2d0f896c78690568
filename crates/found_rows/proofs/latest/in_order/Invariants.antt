use Rattle.std.proofs.Common.{◌≡◌, ◌++◌}
use Rattle.sql_eval.specs.Totals.{looked_at}
use Rattle.found_rows.specs.Inside.ByRow.{rows_in}
use Rattle.found_rows.proofs.latest.in_order.Given as goal

abbrev pub invariant-loop-image : goal.invariant-loop-image
invariant-loop-image l = looked_at l.seen.items ++ looked_at l.image-iterator ≡ rows_in l.rows
