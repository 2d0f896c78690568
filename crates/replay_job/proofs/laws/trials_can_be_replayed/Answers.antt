use Rattle.replay_job.proofs.Jobs.{trial_sound_job}
use Rattle.replay_job.proofs.laws.trials_can_be_replayed.Goals as goal

pub returns : goal.returns
returns c = trial_sound_job
