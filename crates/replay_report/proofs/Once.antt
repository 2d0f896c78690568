-- In a replay no id stands twice on one side of the pairs.
use Rattle.std.proofs.Common.{subst, List}
use Rattle.desk_values.specs.declared.capture.Event.{Event}
use Rattle.id_pairs.specs.Pairs.{HasNoIdTwice}
use Rattle.replay_job.specs.Job.{IsReplayable, JobView}
use Rattle.replay_job.specs.Runs.{IsCompleteFor, Stage}
use Rattle.law_ids.proofs.Replays.Learnt.{pairs_learnt}
use Rattle.law_ids.proofs.Replays.Pairs.{one_to_one}
use Rattle.replay_report.specs.Report.{pairs_after}

pub once_of : (job : JobView) (history : List Event) → IsReplayable job → (last : Stage) × IsCompleteFor job history last → HasNoIdTwice (pairs_after job history)
once_of job history replayable run = subst HasNoIdTwice (pairs_learnt job history run.0 run.1.truthful) (one_to_one job history run.0 replayable run.1.legal run.1.truthful).once
