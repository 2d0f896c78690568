use Rattle.law_replays.proofs.Told.Told.{steps_tell_own}
use Rattle.law_replays.proofs.told_laws.steps_tell_given_ids.Goals as goal

pub returns : goal.returns
returns c = steps_tell_own
