use Rattle.std.proofs.Common.{subst, sym}
use Rattle.replay_job.specs.Job.{IsReplayable}
use Rattle.remote_target.proofs.running.Plan.of.Goals as goal

pub setup-requires : goal.setup-requires
setup-requires g c = subst IsReplayable (sym c.in_ok-copy.ensures) c.requires.job
