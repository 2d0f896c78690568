-- A desk as contracts see it.
use Rattle.std.specs.Prelude.{◌≡◌, ℕ, Bool, false, List, [], ◌∷◌, ◌++◌}
use Rattle.std.specs.List.{AllByRecursion}
use Rattle.desk_values.specs.declared.call.Reply.{Reply}
use Rattle.desk_values.specs.declared.capture.Event.{Event}
use Rattle.desk_values.specs.declared.capture.Event.TheVariants.{Start, Answer}
use Rattle.replay_job.specs.Events.{IsEvent}
use Rattle.replay_job.specs.Job.{JobView}
use Rattle.replay_job.specs.Replays.{IsSoundJob}
use Rattle.replay_job.specs.Runs.{Executes, IsLegalFor, IsTruthfulFor, Stage, first_stage}

pub record DeskView : Type 0 where
  pub job : JobView
  -- what was started and answered so far, and how far the replay has come by it
  pub history : List Event
  pub stage : Stage
  -- no lane is to start a call any more
  pub stopped : Bool

-- nothing is started yet
abbrev pub new_desk : JobView → DeskView
new_desk job = record { job = job; history = []; stage = first_stage job; stopped = false }

-- what a desk keeps: its job can be replayed, and its history is a legal and truthful one of the job that leads to its stage,
-- in which each event has a text
pub record IsKept (desk : DeskView) : Type 0 where
  pub sound : IsSoundJob desk.job
  pub legal : IsLegalFor desk.job desk.history
  pub truthful : IsTruthfulFor desk.job desk.history desk.stage
  pub texts : AllByRecursion IsEvent desk.history

-- the desk after the start of a call
abbrev pub with_start : DeskView → ℕ → ℕ → DeskView
with_start desk k pause = record desk { history = desk.history ++ Start k pause ∷ [] }

-- the desk after the answer of a call: one step of the server
abbrev pub IsAnswer : DeskView → ℕ → DeskView → Type 0
IsAnswer old k new = (reply : Reply) × Executes old.job old.stage k reply new.stage
    × (new ≡ record old { history = old.history ++ Answer k reply ∷ []; stage = new.stage })
