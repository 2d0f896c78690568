-- A replay of a job to its end.
use Rattle.std.specs.Prelude.{List}
use Rattle.std.specs.List.{AllByRecursion}
use Rattle.desk_values.specs.declared.capture.Event.{Event}
use Rattle.desk_schema.specs.Sound.{IsSoundStart}
use Rattle.replay_job.specs.Events.{IsEvent}
use Rattle.replay_job.specs.Job.{IsReplayable, JobView}
use Rattle.replay_job.specs.Runs.{IsCompleteFor, Stage}

-- a job that can be replayed, on a start that keeps its rules, as every start does
pub record IsSoundJob (job : JobView) : Type 0 where
  pub replayable : IsReplayable job
  pub target : IsSoundStart job.target

-- The job's calls are a legal capture. The history is legal, each call that is sent is answered as one server answers it there, and
-- every call is answered; the server and the pairs of ids come to this stage.
pub record IsReplay (job : JobView) (history : List Event) (last : Stage) : Type 0 where
  pub sound : IsSoundJob job
  pub complete : IsCompleteFor job history last

-- and each of its events has a text
pub record IsToldReplay (job : JobView) (history : List Event) (last : Stage) : Type 0 where
  pub replay : IsReplay job history last
  pub texts : AllByRecursion IsEvent history
