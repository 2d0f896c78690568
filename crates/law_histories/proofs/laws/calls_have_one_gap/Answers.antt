use Rattle.law_histories.proofs.Places.{one_gap}
use Rattle.law_histories.proofs.laws.calls_have_one_gap.Goals as goal

pub returns : goal.returns
returns c = one_gap
