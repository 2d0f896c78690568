use Rattle.replay_cli.proofs.Unique.{verdict_one}
use Rattle.replay_cli.proofs.laws.one_verdict.Goals as goal

pub returns : goal.returns
returns c = verdict_one
