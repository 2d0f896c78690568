use Rattle.divergence.proofs.Bags.SameRows.{sorted_tell}
use Rattle.divergence.proofs.bag_laws.sorted_lists_tell_bags.Goals as goal

pub returns : goal.returns
returns c = sorted_tell
