use Rattle.replay_cli.proofs.Made.{calls_made, start_made}
use Rattle.replay_cli.proofs.plan.make.Goals as goal

pub returns-clause-start : goal.returns-clause-start
returns-clause-start c = start_made c.generate.result c.args.calls c.generate.ensures.value

pub returns-clause-calls : goal.returns-clause-calls
returns-clause-calls c = calls_made c.generate.result c.args.calls c.generate.ensures.value
