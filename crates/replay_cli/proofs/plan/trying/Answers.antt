use Rattle.std.proofs.Common.{◌∙◌}
use Rattle.replay_cli.proofs.Made.{legal_made, moments_made, plan_tried}
use Rattle.replay_cli.proofs.plan.trying.Goals as goal

pub tried-requires-clause-legal : goal.tried-requires-clause-legal
tried-requires-clause-legal g c = λ κs lives. legal_made c.in_ok-recorder.recorder c.start.result.now c.calls.result.now.items c.start.ensures.valid c.start.ensures.value c.calls.ensures.value

pub tried-requires-clause-moments : goal.tried-requires-clause-moments
tried-requires-clause-moments g c = λ κs lives. moments_made c.in_ok-recorder.recorder c.calls.result.now.items c.start.ensures.valid c.calls.ensures.value

pub returns : goal.returns
returns g c = plan_tried c.tried.result c.args.calls c.start.result.now c.calls.result.now.items (c.start.ensures.value ∙ c.in_ok-recorder.ensures.start) (c.calls.ensures.value ∙ c.in_ok-recorder.ensures.calls) c.tried.ensures.line c.tried.ensures.replay c.tried.ensures.quiet c.tried.ensures.writes
