use Rattle.std.proofs.Common.{◌≡◌, drop}
use Rattle.server_words.specs.Rows.{lay_all}
use Rattle.found_rows.specs.Inside.ByRow.{IsByRow, rows_in}
use Rattle.found_rows.proofs.latest.all_laid.Given as goal

abbrev pub invariant-loop-commit : goal.invariant-loop-commit
invariant-loop-commit l = record {
  by_row : IsByRow l.rows;
  laid : lay_all (rows_in l.rows) (drop l.commit-index l.commits) ≡ lay_all l.start l.commits;
}
