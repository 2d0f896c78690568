use Rattle.std.proofs.Common.{drop}
use Rattle.std.specs.Prelude.{◌↔◌}
use Rattle.std.specs.List.{AllByRecursion}
use Rattle.desk_values.specs.Good.{IsGoodImage, IsShapedImage}
use Rattle.desk_values.proofs.well_formed.are_good_images.Given as goal

abbrev pub invariant-loop-image : goal.invariant-loop-image
invariant-loop-image l = record {
  text : AllByRecursion IsGoodImage (drop l.image-index l.images) ↔ AllByRecursion IsGoodImage l.images;
  shape : AllByRecursion IsShapedImage (drop l.image-index l.images) ↔ AllByRecursion IsShapedImage l.images;
}
