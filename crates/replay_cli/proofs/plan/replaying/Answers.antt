use Rattle.std.proofs.Common.{subst}
use Rattle.std.specs.Prelude.{IfOk}
use Rattle.replay_job.specs.Job.{JobView}
use Rattle.replay_cli.specs.Decision.{ToReplay}
use Rattle.replay_cli.specs.Done.{IsDoneAlone}
use Rattle.replay_cli.proofs.plan.replaying.Goals as goal

pub returns : goal.returns
returns g c = subst (λ (j : JobView). IfOk c.reported.result (λ plan. IsDoneAlone (ToReplay c.args.out.now j) plan)) c.in_ok-desk.ensures.job c.reported.ensures
