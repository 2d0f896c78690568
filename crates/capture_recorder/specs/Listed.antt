-- Lists of sessions that have the calls of a capture.
use Rattle.std.specs.Prelude.{◌≡◌, ◌<◌, ℕ, List}
use Rattle.std.specs.List.Sorted.{IsPermutation}
use Rattle.desk_values.specs.declared.capture.Captured.{Captured}
use Rattle.replay_history.specs.Gap.{IsCallAt, IsStamped}
use Rattle.captured_calls.specs.Stamps.{all_calls, by_stamp}

-- each call is of a session below this number
abbrev pub AreBelow : ℕ → List Captured → Type 0
AreBelow count calls = (k : ℕ) (call : Captured) → IsCallAt calls k call → call.session < count

-- Calls of sessions below this number are just those of the lists.
pub record HaveJust (count : ℕ) (calls : List Captured) (lists : List (List Captured)) : Type 0 where
  -- the lists have each call as often as it stands among the calls, and no other
  pub all : AreBelow count calls → IsPermutation calls (all_calls lists)
  -- put by stamp again they are the calls, where these stand at their stamps
  pub back : AreBelow count calls → IsStamped calls → by_stamp (all_calls lists) ≡ calls
