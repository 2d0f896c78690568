use Rattle.std.proofs.Common.{◌≡◌, drop, List, Bool}
use Rattle.std.specs.BTreeMap.{get}
use Rattle.std.specs.List.{list_all}
use Rattle.std.specs.Option.{option_copied}
use Rattle.std.specs.Ordering.{nat_cmp}
use Rattle.desk_values.specs.declared.value.Image.{Image}
use Rattle.divergence.specs.Bags.Equality.{same_image}
use Rattle.divergence.proofs.equality.agree_on.Given as goal

abbrev pub invariant-loop-image : goal.invariant-loop-image
invariant-loop-image l =
    let agree : List Image → Bool = list_all (λ image. same_image (option_copied (get nat_cmp l.left image.row)) (option_copied (get nat_cmp l.right image.row))) in
    agree (drop l.image-index l.images) ≡ agree l.images
