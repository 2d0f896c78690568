use Rattle.std.proofs.Common.{take}
use Rattle.machine_stores.specs.Tables.{ArePut}
use Rattle.replay_walk.proofs.server.put_images.Given as goal

abbrev pub invariant-loop-image : goal.invariant-loop-image
invariant-loop-image l = ArePut l.number (take l.image-index l.images) l.fn.ledgers l.ledgers
