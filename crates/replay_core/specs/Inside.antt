-- What holds of the fields of a desk.
use Rattle.std.specs.Prelude.{◌≡◌, ℕ, ◌+◌, ◌≤◌, ◌<◌, [], ◌++◌, length}
use Rattle.std.specs.List.{AllByRecursion}
use Rattle.desk_values.specs.declared.call.Reply.{Reply}
use Rattle.desk_values.specs.declared.capture.Captured.{Captured}
use Rattle.desk_schema.specs.Sound.{IsSoundStart}
use Rattle.desk_schema.specs.Start.{StartView}
use Rattle.server_words.specs.Machine.{Running}
use Rattle.server_words.specs.State.{State, opening}
use Rattle.server_words.specs.Step.{Gives}
use Rattle.replay_history.specs.Gap.{IsCallAt}
use Rattle.id_pairs.specs.Pairs.{HasNoIdTwice, learnt}
use Rattle.remap_ids.specs.IdMap.{start_pairs}
use Rattle.remap_ids.specs.Sent.{HasLowIds, sent}
use Rattle.replay_job.specs.Events.{IsEvent}
use Rattle.replay_job.specs.Job.{JobView}
use Rattle.replay_job.specs.declared.job.Job.{Job}
use Rattle.replay_job.specs.Runs.{IsTruthfulFor, Stage}
use Rattle.replay_schedule.specs.Schedule.{Follows}
use Rattle.replay_core.specs.declared.desk.Desk.TheInside.{Inside}
use Rattle.replay_core.specs.declared.desk.Parts.{Parts}
use Rattle.desk_values.specs.Limits.{session_limit}
use Rattle.replay_core.specs.View.{stage_of}

pub record IsDesk (a : Inside) : Type 0 where
  pub target : IsSoundStart a.schedule.job.target
  pub truthful : IsTruthfulFor a.schedule.job a.history.items (stage_of a)
  pub texts : AllByRecursion IsEvent a.history.items
  pub own : a.map.own ≡ length (start_pairs a.schedule.job.start)
  pub follows : Follows a.schedule a.history.items
  -- for a start and an answer of each call
  pub room : length a.schedule.job.calls + length a.schedule.job.calls ≤ a.history.spare + length a.history.items
  pub steps : a.engine.steps ≤ length a.history.items

-- the call can be executed: it can be sent, and whatever reply comes brings new ids on both sides
pub record MayExecute (job : JobView) (stage : Stage) (k : ℕ) (call : Captured) : Type 0 where
  pub at : IsCallAt job.calls k call
  pub session : call.session < session_limit
  pub low : HasLowIds call.call
  pub few : length call.reply.draws ≤ 16
  pub new_ids : (reply : Reply) (next : State)
      → Gives stage.state call.session (sent stage.pairs job.remap call.call) reply next
      → HasNoIdTwice (stage.pairs ++ learnt call.reply reply)

-- a server that has just begun
pub record HasOpened (start : StartView) (engine : Running) : Type 0 where
  pub state : engine.state ≡ opening start
  pub steps : engine.steps ≡ 0

-- what a desk begins with beside its schedule
pub record AreParts (job : Job) (parts : Parts) : Type 0 where
  pub opened : HasOpened job.target parts.engine
  pub pairs_are : parts.map.pairs ≡ start_pairs job.start
  pub own_are : parts.map.own ≡ length parts.map.pairs
  pub no_event : parts.history.items ≡ []
  pub room : length job.calls.items + length job.calls.items ≤ parts.history.spare
