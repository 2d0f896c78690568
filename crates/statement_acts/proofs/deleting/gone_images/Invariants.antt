use Rattle.std.proofs.Common.{◌≡◌, ◌++◌, drop, map}
use Rattle.sql_eval.specs.Totals.{looked_at}
use Rattle.server_words.specs.Writes.{gone}
use Rattle.statement_acts.proofs.deleting.gone_images.Given as goal

abbrev pub invariant-loop-image : goal.invariant-loop-image
invariant-loop-image l = l.images ++ map gone (looked_at (drop l.image-index l.found)) ≡ map gone (looked_at l.found)
