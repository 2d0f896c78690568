-- What is known where a whole replay is gone through again, event by event, and a capture call by call.
use Rattle.std.specs.Prelude.{◌≡◌, ℕ, suc, ◌+◌, ◌<◌, ◌++◌, List, [], ◌∷◌, take}
use Rattle.desk_values.specs.Limits.{session_limit}
use Rattle.desk_values.specs.declared.call.Reply.{Reply}
use Rattle.desk_values.specs.declared.capture.Captured.{Captured}
use Rattle.desk_values.specs.declared.capture.Event.{Event}
use Rattle.desk_values.specs.declared.capture.Event.TheVariants.{Start, Answer}
use Rattle.server_words.specs.State.{State}
use Rattle.server_words.specs.Step.{Gives}
use Rattle.replay_history.specs.Gap.{IsCallAt}
use Rattle.replay_history.specs.History.{AnswersAt, StartsAt}
use Rattle.replay_history.specs.Limits.{call_limit}
use Rattle.id_pairs.specs.Pairs.{HasNoIdTwice, learnt}
use Rattle.remap_ids.specs.Sent.{HasLowIds, sent}
use Rattle.replay_job.specs.Job.{IsReplayable, JobView}
use Rattle.replay_job.specs.Runs.{IsTruthfulFor, Stage}
use Rattle.law_replays.specs.End.Answers.{IsAnsweredAt, IsReplay}
use Rattle.law_replays.specs.End.Twins.{CameBefore}

-- how many of these events are answers
abbrev pub answers_in : List Event → ℕ
answers_in [] = 0
answers_in (Start k pause ∷ events) = answers_in events
answers_in (Answer k reply ∷ events) = answers_in events + 1

-- ---- a replay

-- at this place the call with this stamp is answered so, where the replay stands at this stage
pub record IsNextAnswer (job : JobView) (history : List Event) (n k : ℕ) (reply : Reply) (stage : Stage) (call : Captured) : Type 0 where
  pub at : IsCallAt job.calls k call
  -- it can be sent
  pub session : call.session < session_limit
  pub low : HasLowIds call.call
  pub few : answers_in (take n history) < call_limit
  -- the ids of its two replies are new
  pub new_ids : HasNoIdTwice (stage.pairs ++ learnt call.reply reply)
  -- a server that does it again comes to the stage behind it
  pub next : (given : Reply) (state : State) → Gives stage.state call.session (sent stage.pairs job.remap call.call) given state
      → IsAnsweredAt job history n k call reply stage (record { state = state; pairs = stage.pairs ++ learnt call.reply reply })
  pub more : answers_in (take (suc n) history) ≡ answers_in (take n history) + 1

abbrev pub AnswersAreSteps : Type 0
AnswersAreSteps = (job : JobView) (history : List Event) (last : Stage) → IsReplay job history last
    → (n k : ℕ) (reply : Reply) (stage : Stage) → AnswersAt history n k reply → IsTruthfulFor job (take n history) stage
    → (call : Captured) × IsNextAnswer job history n k reply stage call

-- the replay stands at one stage before the place and behind it, and no call is answered there
pub record IsNoAnswer (job : JobView) (history : List Event) (n : ℕ) (stage : Stage) : Type 0 where
  pub stands : IsTruthfulFor job (take (suc n) history) stage
  pub as_many : answers_in (take (suc n) history) ≡ answers_in (take n history)
  pub none : (k : ℕ) (reply : Reply) → ¬ AnswersAt history n k reply

abbrev pub StartsChangeNothing : Type 0
StartsChangeNothing = (job : JobView) (history : List Event) (n k pause : ℕ) (stage : Stage) → StartsAt history n k pause
    → IsTruthfulFor job (take n history) stage → IsNoAnswer job history n stage

-- ---- a capture

-- the call with this stamp, before which the captured server came to this state
pub record IsNextCall (job : JobView) (k : ℕ) (call : Captured) (state : State) : Type 0 where
  pub session : call.session < session_limit
  pub stamp : call.stamp ≡ k
  pub few : k < call_limit
  -- a server that does it again comes to the state behind it
  pub next : (given : Reply) (after : State) → Gives state call.session call.call given after → CameBefore job (suc k) after

abbrev pub CallsAreSteps : Type 0
CallsAreSteps = (job : JobView) (k : ℕ) (call : Captured) (state : State) → IsReplayable job → IsCallAt job.calls k call
    → CameBefore job k state → IsNextCall job k call state
