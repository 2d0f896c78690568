use Rattle.std.proofs.Common.{refl}
use Rattle.replay_walk.proofs.behind.Behind.take_met.Goals as goal

pub returns-clause-rest : goal.returns-clause-rest
returns-clause-rest c = record { server = refl; at = refl; clean = refl; gone = c.take.ensures.gone; others = c.take.ensures.others }
