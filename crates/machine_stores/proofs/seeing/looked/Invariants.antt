use Rattle.std.proofs.Common.{◌≡◌, ◌++◌, drop}
use Rattle.sql_eval.specs.Totals.{looked_at}
use Rattle.machine_stores.proofs.seeing.looked.Given as goal

abbrev pub invariant-loop-image : goal.invariant-loop-image
invariant-loop-image l = looked_at l.seen.items ++ drop l.image-index l.images ≡ l.images
