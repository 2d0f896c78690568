-- A gate that has just the starts and the answers of a history.
use Rattle.std.specs.Prelude.{◌≡◌, ◌↔◌, ℕ, ◌+◌, Bool, true, ◌&&◌, not, List, length, count_by}
use Rattle.desk_values.specs.declared.capture.Event.{Event}
use Rattle.replay_history.specs.History.{IsAnswered, IsStarted}
use Rattle.commit_gate.specs.Gates.{GateView, is_in}
use Rattle.replay_job.specs.Job.{IsReplayable, JobView}
use Rattle.replay_job.specs.Runs.{IsLegalFor}

-- how many stamps stand in a set
abbrev pub size : List Bool → ℕ
size stamps = count_by (λ there. there) stamps

-- the history is a legal one of a job that can be replayed, the gate has just its starts and its answers, and the waiting calls are
-- those between
pub record IsGateOf (job : JobView) (history : List Event) (gate : GateView) (waiting : List Bool) : Type 0 where
  pub replayable : IsReplayable job
  pub legal : IsLegalFor job history
  pub facts : gate.facts ≡ job.facts
  pub mode : gate.mode ≡ job.mode
  pub started_len : length gate.started ≡ length job.calls
  pub answered_len : length gate.answered ≡ length job.calls
  pub waiting_len : length waiting ≡ length job.calls
  pub started : (k : ℕ) → (is_in gate.started k ≡ true) ↔ IsStarted history k
  pub answered : (k : ℕ) → (is_in gate.answered k ≡ true) ↔ IsAnswered history k
  pub between : (k : ℕ) → is_in waiting k ≡ (is_in gate.started k && not (is_in gate.answered k))
  pub events : length history ≡ size gate.started + size gate.answered
