-- How often the calls of a capture have an event of a kind, as it is counted.
use Rattle.std.specs.Prelude.{◌≡◌, ℕ, ◌+◌, ◌<◌, ◌≤◌, nat_eq, if◌then◌else◌, Bool, true, false, List, length, slice_index_or}
use Rattle.desk_values.specs.declared.capture.Event.{Event}
use Rattle.run_files.specs.Fitting.{times_in}
use Rattle.run_files.specs.declared.misfit.Kind.{Kind}
use Rattle.run_files.specs.declared.times.Times.{Times}
use Rattle.run_files.specs.declared.times.Times.TheVariants.{Never, Once, Often}

-- so often
abbrev pub IsTimes : ℕ → Times → Type 0
IsTimes n Never = n ≡ 0
IsTimes n Once = n ≡ 1
IsTimes n Often = 2 ≤ n

-- it tells of each number below this one how often it counts
abbrev pub AreCounts : (ℕ → ℕ) → ℕ → List Times → Type 0
AreCounts counts n times = (length times ≡ n) × ((k : ℕ) → k < n → IsTimes (counts k) (slice_index_or times k Never))

-- it tells of each of so many calls how many events of a kind it has in this history
abbrev pub AreTimesOf : Kind → List Event → ℕ → List Times → Type 0
AreTimesOf kind history n times = AreCounts (times_in kind history) n times

abbrev pub one_more_at : ℕ → (ℕ → ℕ) → ℕ → ℕ
one_more_at stamp counts k = if nat_eq stamp k then counts k + 1 else counts k

abbrev pub is_once : Times → Bool
is_once Once = true
is_once other = false
