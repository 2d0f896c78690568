-- What contracts see of a schedule, and when it follows a history.
use Rattle.std.specs.Prelude.{Bool, List}
use Rattle.desk_values.specs.declared.capture.Event.{Event}
use Rattle.commit_gate.specs.Gates.{GateView}
use Rattle.replay_job.specs.Job.{JobView}
use Rattle.replay_schedule.specs.Gates.Following.{IsGateOf}

pub record ScheduleView : Type 0 where
  pub job : JobView
  -- which calls are started and answered
  pub gate : GateView
  -- which are started and not answered
  pub waiting : List Bool
  -- no lane is to start a call any more
  pub stopped : Bool

-- the history is a legal one of the job, and its starts and its answers are just those of the schedule
abbrev pub Follows : ScheduleView → List Event → Type 0
Follows schedule history = IsGateOf schedule.job history schedule.gate schedule.waiting

-- of each history that a schedule follows
abbrev pub Behind : ScheduleView → (List Event → Type 0) → Type 0
Behind schedule P = (history : List Event) → Follows schedule history → P history

-- of some history that it follows
abbrev pub BehindSome : ScheduleView → (List Event → Type 0) → Type 0
BehindSome schedule P = (history : List Event) × Follows schedule history × P history
