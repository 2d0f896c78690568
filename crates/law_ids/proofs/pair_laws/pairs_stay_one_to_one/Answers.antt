use Rattle.law_ids.proofs.Replays.Pairs.{one_to_one}
use Rattle.law_ids.proofs.pair_laws.pairs_stay_one_to_one.Goals as goal

pub returns : goal.returns
returns c = one_to_one
