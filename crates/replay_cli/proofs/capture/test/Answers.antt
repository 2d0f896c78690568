use Rattle.prepare_plan.specs.Lists.{lists_of}
use Rattle.replay_job.proofs.Jobs.{plan_known, plan_moments}
use Rattle.replay_cli.proofs.capture.test.Goals as goal

pub returns-in-Ok-clause-known : goal.returns-in-Ok-clause-known
returns-in-Ok-clause-known c =
    plan_known c.args.read.start (lists_of c.args.read.sessions) (record { calls = c.in-Ok.prepared.calls.items; facts = c.in-Ok.prepared.facts }) c.in-Ok.ensures.verdict c.in-Ok.ensures.facts

pub returns-in-Ok-clause-moments : goal.returns-in-Ok-clause-moments
returns-in-Ok-clause-moments c =
    plan_moments c.args.read.start (lists_of c.args.read.sessions) (record { calls = c.in-Ok.prepared.calls.items; facts = c.in-Ok.prepared.facts }) c.in-Ok.ensures.verdict c.requires.lists
