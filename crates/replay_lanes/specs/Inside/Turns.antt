-- What a lane does under one hold of the lock.
use Rattle.std.specs.Prelude.{EachIndex, ◌≡◌, ◌⊎◌, ℕ, true, false, List, slice_index}
use Rattle.replay_job.specs.Runs.{IsSessionDone, IsPick, NoneMayStart}
use Rattle.replay_lanes.specs.Inside.Courses.{CourseView, started}
use Rattle.replay_lanes.specs.declared.turns.Turn.{Turn}
use Rattle.replay_lanes.specs.declared.turns.Turn.TheVariants.{Passes, Waits, Ends}

-- every call of the lane's sessions is answered
abbrev pub IsLaneDone : List ℕ → CourseView → Type 0
IsLaneDone lane desk = EachIndex lane (λ i. IsSessionDone desk.job desk.history (slice_index lane i))

-- none of them may start
abbrev pub IsLaneHeld : List ℕ → CourseView → Type 0
IsLaneHeld lane desk = EachIndex lane (λ i. NoneMayStart desk.job desk.history (slice_index lane i))

-- what a lane takes from a desk, and the desk after it: one start, or nothing
abbrev pub Takes : List ℕ → CourseView → CourseView → Turn → Type 0
Takes lane old new (Passes k pause) = (old.stopped ≡ false) × IsPick old.job old.history lane k × (new ≡ started old k pause)
Takes lane old new Waits = (old.stopped ≡ false) × IsLaneHeld lane old × (IsLaneDone lane old → ⊥) × (new ≡ old)
Takes lane old new Ends = ((old.stopped ≡ true) ⊎ IsLaneDone lane old) × (new ≡ old)

-- the call waited already, or was started
abbrev pub IsBegun : CourseView → ℕ → CourseView → Type 0
IsBegun old k new = (new ≡ old) ⊎ ((pause : ℕ) × (new ≡ started old k pause))
