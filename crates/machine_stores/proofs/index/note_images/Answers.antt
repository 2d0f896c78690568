use Rattle.std.proofs.Common.{arith, subst}
use Rattle.std.proofs.lemmas.List.{drop_all}
use Rattle.machine_stores.specs.Index.{AreIndexes}
use Rattle.server_words.proofs.Looks.{front_of}
use Rattle.machine_stores.proofs.index.note_images.Goals as goal

pub loop-image-preserved : goal.loop-image-preserved
loop-image-preserved c = λ are. c.note_image.ensures _ (subst (AreIndexes c.loop-image.indexes.items c.args.tables.now c.args.number) (front_of c.args.images.now c.loop-image.image-index c.image-item.result (omega arith) c.image-item.is) (c.loop-image.invariant are))

pub returns : goal.returns
returns c = λ are. subst (AreIndexes c.loop-image.indexes.items c.args.tables.now c.args.number) (drop_all c.loop-image.image-index c.args.images.now (omega arith)) (c.loop-image.invariant are)
