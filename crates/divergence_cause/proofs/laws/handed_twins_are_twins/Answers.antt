use Rattle.replay_walk.proofs.Meeting.{handed_twins}
use Rattle.divergence_cause.proofs.laws.handed_twins_are_twins.Goals as goal

pub returns : goal.returns
returns c = handed_twins
