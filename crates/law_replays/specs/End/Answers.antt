-- The answers of a replay, at their places in its history, and what may be asked of them.
use Rattle.std.specs.Prelude.{◌≡◌, ◌↔◌, ℕ, suc, ◌<◌, true, false, List, take}
use Rattle.desk_values.specs.declared.call.Call.TheVariants.{Connect}
use Rattle.desk_values.specs.declared.call.Reply.{Reply}
use Rattle.desk_values.specs.declared.capture.Captured.{Captured}
use Rattle.desk_values.specs.declared.capture.Event.{Event}
use Rattle.replay_history.specs.declared.mode.Mode.{Mode}
use Rattle.replay_history.specs.declared.mode.Mode.TheVariants.{Off, Scn, Object, Order, Fence}
use Rattle.replay_history.specs.declared.report.Class.{Class}
use Rattle.replay_history.specs.Gap.{IsCallAt}
use Rattle.replay_history.specs.Capture.{commits}
use Rattle.replay_history.specs.History.{AnswersAt, IsAnsweredBefore}
use Rattle.remap_ids.specs.Sent.{sent_service}
use Rattle.replay_job.specs.Job.{JobView}
pub use Rattle.replay_job.specs.Replays.{IsReplay, IsSoundJob}
use Rattle.replay_job.specs.Runs.{IsTruthfulFor, Stage}
use Rattle.divergence.specs.Class.{class_between, is_write_divergence}

-- At this place of the history the call with this stamp is answered so. The replay stands at the one stage just before, and at
-- the other just after.
pub record IsAnsweredAt (job : JobView) (history : List Event) (i k : ℕ) (call : Captured) (reply : Reply)
    (before after : Stage) : Type 0 where
  pub is_call : IsCallAt job.calls k call
  pub answers : AnswersAt history i k reply
  pub stood : IsTruthfulFor job (take i history) before
  pub stands : IsTruthfulFor job (take (suc i) history) after

-- the class of an answer, by the pairs just after it
abbrev pub class_after : Stage → Captured → Reply → Class
class_after after call reply = class_between after.pairs call.reply reply

-- no answer differs from the captured one where either of the two is that of a commit
abbrev pub HasNoWriteDivergence : JobView → List Event → Type 0
HasNoWriteDivergence job history = (i k : ℕ) (call : Captured) (reply : Reply) (before after : Stage)
    → IsAnsweredAt job history i k call reply before after → is_write_divergence after.pairs call.reply reply ≡ false

-- of the numbered commits just those of the calls before this stamp are answered before this place
abbrev pub HasCommitsBefore : JobView → List Event → ℕ → ℕ → Type 0
HasCommitsBefore job history i n = (m : ℕ) (call : Captured) → IsCallAt job.calls m call → commits call.reply.outcome ≡ true
    → IsAnsweredBefore history i m ↔ (m < n)

-- the modes in which a call waits for each commit that it saw
abbrev pub WaitsForCommits : Mode → Type 0
WaitsForCommits Off = ⊥
WaitsForCommits Scn = Unit {0}
WaitsForCommits Object = ⊥
WaitsForCommits Order = Unit {0}
WaitsForCommits Fence = Unit {0}

-- those of them in which a numbered commit waits for each call before it too
abbrev pub FencesCommits : Mode → Type 0
FencesCommits Off = ⊥
FencesCommits Scn = ⊥
FencesCommits Object = ⊥
FencesCommits Order = Unit {0}
FencesCommits Fence = Unit {0}

-- each service that the capture connects to is sent as it is
abbrev pub KeepsServices : JobView → Type 0
KeepsServices job = (k : ℕ) (call : Captured) (service : List ℕ) → IsCallAt job.calls k call
    → call.call ≡ Connect service → sent_service job.remap service ≡ service

-- the replay is to do again what the capture did: in its order, from its start, by its services
pub record IsAgain (job : JobView) : Type 0 where
  pub order : job.mode ≡ Order
  pub target : job.target ≡ job.start
  pub services : KeepsServices job
