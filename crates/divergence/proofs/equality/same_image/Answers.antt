use Rattle.divergence.proofs.Bags.SameImages.{images_are}
use Rattle.divergence.proofs.equality.same_image.Goals as goal

pub returns-then-image-other : goal.returns-then-image-other
returns-then-image-other c = rw (c.in-Some-Some.is-0, c.in-Some-Some.is-1) (images_are c.in-Some-Some.image.now.now c.in-Some-Some.other.now.now c.same.result c.if-image-other.true c.same.ensures)
