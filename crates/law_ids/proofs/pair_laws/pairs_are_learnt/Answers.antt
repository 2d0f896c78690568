use Rattle.law_ids.proofs.Replays.Learnt.{pairs_learnt}
use Rattle.law_ids.proofs.pair_laws.pairs_are_learnt.Goals as goal

pub returns : goal.returns
returns c = pairs_learnt
