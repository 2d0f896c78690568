use Rattle.divergence.proofs.Bags.SameRows.{bag_decides}
use Rattle.divergence.proofs.bag_laws.bags_are_counted.Goals as goal

pub returns : goal.returns
returns c = bag_decides
