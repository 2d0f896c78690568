use Rattle.std.proofs.Common.{◌≡◌, ◌++◌, drop}
use Rattle.sql_eval.specs.Totals.{looked_at}
use Rattle.server_words.specs.Rows.{row_numbers}
use Rattle.statement_acts.proofs.deciding.row_numbers.Given as goal

abbrev pub invariant-loop-image : goal.invariant-loop-image
invariant-loop-image l = l.numbers ++ row_numbers (looked_at (drop l.image-index l.rows)) ≡ row_numbers (looked_at l.rows)
