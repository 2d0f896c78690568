use Rattle.replay_job.specs.Job.{seen}
use Rattle.replay_schedule.proofs.Gates.Gates.{in_place}
use Rattle.replay_schedule.proofs.schedule.gaps_before.Goals as goal

pub gaps_of-requires : goal.gaps_of-requires
gaps_of-requires c = in_place (seen c.args.job.now) c.requires
