use Rattle.fence_law.proofs.One.{one_list}
use Rattle.fence_law.proofs.laws.one_list_of_plain_reads.Goals as goal

pub returns : goal.returns
returns c = one_list
