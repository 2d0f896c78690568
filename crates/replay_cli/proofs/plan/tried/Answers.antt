use Rattle.std.proofs.Common.{subst}
use Rattle.replay_job.specs.Job.{JobView, seen}
use Rattle.replay_job.specs.Replays.{IsToldReplay}
use Rattle.replay_cli.proofs.Made.{trial_replay}
use Rattle.replay_cli.proofs.plan.tried.Goals as goal

pub returns-clause-replay : goal.returns-clause-replay
returns-clause-replay g c =
    let desk = c.in_ok-run_all.field-0 in
    let told = subst (λ (j : JobView). IsToldReplay j desk.history desk.stage) c.in_ok-run_all.ensures.job c.in_ok-run_all.ensures.replay in
    (c.requires.legal, c.requires.moments, (desk.history, desk.stage, trial_replay c.args.start.now c.args.calls.now.items (seen c.in_ok-job.job) desk.history desk.stage c.in_ok-job.ensures.trial told))
