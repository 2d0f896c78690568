use Rattle.std.proofs.Common.{arith}
use Rattle.remap_ids.proofs.Drawn.{all_drawn}
use Rattle.remap_ids.proofs.learning.add_drawn.Goals as goal

pub returns-clause-pairs : goal.returns-clause-pairs
returns-clause-pairs c = all_drawn c.loop-place.pairs.pairs _ c.args.captured.now c.args.replayed.now c.loop-place.place (omega arith) c.loop-place.invariant.pairs
