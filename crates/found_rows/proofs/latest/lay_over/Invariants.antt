use Rattle.std.proofs.Common.{◌≡◌, drop}
use Rattle.server_words.specs.Rows.{lay}
use Rattle.found_rows.specs.Inside.ByRow.{IsByRow, rows_in}
use Rattle.found_rows.proofs.latest.lay_over.Given as goal

abbrev pub invariant-loop-change : goal.invariant-loop-change
invariant-loop-change l = record {
  by_row : IsByRow l.rows;
  laid : lay (rows_in l.rows) (drop l.change-index l.changes) ≡ lay (rows_in l.fn.rows) l.changes;
}
