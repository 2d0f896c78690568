use Rattle.std.proofs.Common.{drop}
use Rattle.machine_stores.specs.Index.{AreIndexes}
use Rattle.machine_stores.proofs.index.note_images.Given as goal

abbrev pub invariant-loop-image : goal.invariant-loop-image
invariant-loop-image l = AreIndexes l.fn.indexes.items l.tables l.number l.images → AreIndexes l.indexes.items l.tables l.number (drop l.image-index l.images)
