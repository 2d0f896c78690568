use Rattle.replay_job.proofs.Jobs.{plan_sound_job}
use Rattle.replay_job.proofs.laws.plans_can_be_replayed.Goals as goal

pub returns : goal.returns
returns c = plan_sound_job
