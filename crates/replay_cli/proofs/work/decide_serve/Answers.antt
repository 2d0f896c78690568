use Rattle.replay_cli.proofs.Steps.{served_from}
use Rattle.replay_cli.proofs.work.decide_serve.Goals as goal

pub returns-clause-step : goal.returns-clause-step
returns-clause-step g c = served_from c.args.capture c.args.start.now c.args.connections c.args.port _ _ _ _ c.in_ok-file.file c.in_ok-file.ensures.step
