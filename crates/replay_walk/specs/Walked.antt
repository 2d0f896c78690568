-- What is told of the answers of a replay: which of them nothing stood before, and which met what they met in the capture.
use Rattle.std.specs.Prelude.{◌≡◌, ◌↔◌, ℕ, ◌<◌, Bool, true, false, List, length, take, is_some, slice_index_or}
use Rattle.desk_values.specs.declared.call.Reply.{Reply}
use Rattle.desk_values.specs.declared.capture.Captured.{Captured}
use Rattle.desk_values.specs.declared.capture.Event.{Event}
use Rattle.server_words.specs.Clean.{is_clean}
use Rattle.server_words.specs.State.{State}
use Rattle.replay_history.specs.Capture.{binds_of}
use Rattle.id_pairs.specs.Carrying.Carried.{carried_row}
use Rattle.replay_job.specs.Job.{JobView}
use Rattle.replay_job.specs.Runs.{Stage}
use Rattle.law_replays.specs.End.Answers.{HasNoWriteDivergence, IsAnsweredAt}
use Rattle.law_replays.specs.End.Twins.{CameBefore, IsTwinCall}

abbrev pub marked_at : List Bool → ℕ → Bool
marked_at marks k = slice_index_or marks k false

-- nothing stood before the call with this stamp, which is answered at this place
pub record IsOpenAnswer (job : JobView) (history : List Event) (k place : ℕ) (call : Captured) (reply : Reply)
    (before after : Stage) (captured : State) : Type 0 where
  pub there : IsAnsweredAt job history place k call reply before after
  pub came : CameBefore job k captured
  -- its session has changed nothing, in the capture and in the replay
  pub clean : is_clean captured call.session ≡ true
  pub still_clean : is_clean before.state call.session ≡ true
  -- each id among its binds has an image
  pub images : is_some (carried_row before.pairs (binds_of call.call)) ≡ true
  -- no commit differed before
  pub quiet : HasNoWriteDivergence job (take place history)

abbrev pub IsOpen : JobView → List Event → ℕ → Type 0
IsOpen job history k = (place : ℕ) × (call : Captured) × (reply : Reply) × (before : Stage) × (after : Stage) × (captured : State)
    × IsOpenAnswer job history k place call reply before after captured

-- just the calls are marked before which nothing stood
pub record AreOpen (job : JobView) (history : List Event) (marks : List Bool) : Type 0 where
  pub count : length marks ≡ length job.calls
  pub each : (k : ℕ) → (marked_at marks k ≡ true) ↔ IsOpen job history k

-- the call with this stamp meets where it is answered just what it met in the capture, but for ids
pub record MeetsTheSame (job : JobView) (history : List Event) (k : ℕ) : Type 0 where
  pub place : ℕ
  pub call : Captured
  pub reply : Reply
  pub before : Stage
  pub after : Stage
  pub captured : State
  pub there : IsAnsweredAt job history place k call reply before after
  pub came : CameBefore job k captured
  pub twin : IsTwinCall job call captured before

-- of the calls that are asked for just those are marked that meet the same
pub record AreTold (job : JobView) (history : List Event) (asked marks : List Bool) : Type 0 where
  pub count : length marks ≡ length job.calls
  pub each : (k : ℕ) → k < length job.calls → marked_at asked k ≡ true → (marked_at marks k ≡ true) ↔ MeetsTheSame job history k
