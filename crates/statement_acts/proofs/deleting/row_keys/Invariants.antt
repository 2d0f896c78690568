use Rattle.std.proofs.Common.{◌≡◌, ◌++◌, drop, map}
use Rattle.sql_eval.specs.Totals.{looked_at}
use Rattle.server_words.specs.Rows.{row_key}
use Rattle.statement_acts.proofs.deleting.row_keys.Given as goal

abbrev pub invariant-loop-image : goal.invariant-loop-image
invariant-loop-image l = l.keys ++ map row_key (looked_at (drop l.image-index l.found)) ≡ map row_key (looked_at l.found)
