use Rattle.replay_walk.proofs.Captures.{next_call}
use Rattle.replay_walk.proofs.laws.calls_are_steps.Goals as goal

pub returns : goal.returns
returns c = next_call
