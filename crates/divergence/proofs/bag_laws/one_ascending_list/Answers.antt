use Rattle.divergence.proofs.Bags.SameRows.{one_list}
use Rattle.divergence.proofs.bag_laws.one_ascending_list.Goals as goal

pub returns : goal.returns
returns c = one_list
