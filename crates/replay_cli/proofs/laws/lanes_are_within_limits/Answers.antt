use Rattle.replay_cli.proofs.laws.lanes_are_within_limits.Goals as goal

pub returns : goal.returns
returns c = λ ways has. has.lanes
