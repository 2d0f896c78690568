-- What is done of what the lanes have left.
use Rattle.std.specs.Prelude.{◌≡◌, ◌≤◌, ℕ, EachIndex, List, ◌++◌, length, slice_get, slice_index, take, Some}
use Rattle.desk_values.specs.declared.capture.Event.{Event}
use Rattle.desk_values.specs.declared.capture.Event.TheVariants.{Start}
use Rattle.replay_job.specs.Job.{JobView}
use Rattle.replay_job.specs.Runs.{IsPick, NoneMayStart}

-- the events go on where the first ones ended
abbrev pub GoesOn : List Event → List Event → Type 0
GoesOn first events = (more : List Event) × (events ≡ first ++ more)

-- none of the calls of the lane's sessions may start
abbrev pub NoneIsLeft : JobView → List ℕ → List Event → Type 0
NoneIsLeft job lane events = EachIndex lane (λ i. NoneMayStart job events (slice_index lane i))

-- behind the first ones each start is that of the call which a thread of the lane would take at its place
abbrev pub StartsArePicks : JobView → List ℕ → List Event → List Event → Type 0
StartsArePicks job lane first events = (i k pause : ℕ) → length first ≤ i → slice_get events i ≡ Some (Start k pause) → IsPick job (take i events) lane k
