use Rattle.std.proofs.Common.{◌≡◌, ◌++◌, drop}
use Rattle.sql_eval.specs.Totals.{looked_at}
use Rattle.machine_model.proofs.viewing.copied.Given as goal

abbrev pub invariant-loop-image : goal.invariant-loop-image
invariant-loop-image l = l.images ++ looked_at (drop l.image-index l.rows) ≡ looked_at l.rows
