use Rattle.fence_law.proofs.Reading.{plain_are_same}
use Rattle.fence_law.proofs.laws.plain_reads_are_same.Goals as goal

pub returns : goal.returns
returns c = plain_are_same
