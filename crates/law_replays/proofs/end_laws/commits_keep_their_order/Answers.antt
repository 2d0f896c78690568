use Rattle.law_replays.proofs.End.Whole.{commits_ordered}
use Rattle.law_replays.proofs.end_laws.commits_keep_their_order.Goals as goal

pub returns : goal.returns
returns c = commits_ordered
