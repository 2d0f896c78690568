use Rattle.law_histories.proofs.Places.{one_before, places_rise}
use Rattle.law_histories.proofs.laws.calls_keep_their_order.Goals as goal

pub returns-clause-rise : goal.returns-clause-rise
returns-clause-rise c = places_rise

pub returns-clause-before : goal.returns-clause-before
returns-clause-before c = one_before
