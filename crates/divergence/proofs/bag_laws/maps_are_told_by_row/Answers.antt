use Rattle.divergence.proofs.Bags.SameImages.{map_decides}
use Rattle.divergence.proofs.bag_laws.maps_are_told_by_row.Goals as goal

pub returns : goal.returns
returns c = map_decides
