use Rattle.std.proofs.Common.{◌≡◌, take}
use Rattle.std.specs.List.{fold}
use Rattle.replay_show.specs.Ids.{with_image}
use Rattle.replay_show.proofs.ids.add_images.Given as goal

abbrev pub invariant-loop-image : goal.invariant-loop-image
invariant-loop-image l = l.to ≡ fold with_image l.fn.to (take l.image-index l.images)
