-- Calls that stand at their places, fit there, and have texts.
use Rattle.std.specs.Prelude.{◌≡◌, ◌≤◌, ℕ, List}
use Rattle.desk_values.specs.declared.value.Image.{Image}
use Rattle.desk_values.specs.declared.capture.Captured.{Captured}
use Rattle.desk_values.specs.Good.{IsGoodReply}
use Rattle.desk_values.specs.Limits.{last_moment}
use Rattle.replay_history.specs.Capture.{FitsIn, HasPlace}
use Rattle.replay_history.specs.Gap.{IsCallAt}

-- each call stands behind as many of its session as its place says
abbrev pub ArePlaced : List Captured → Type 0
ArePlaced calls = (k : ℕ) (call : Captured) → IsCallAt calls k call → HasPlace calls k call

-- what a capture says of each call by itself holds of each
abbrev pub AllFit : List Image → List Captured → Type 0
AllFit rows calls = (k : ℕ) (call : Captured) → IsCallAt calls k call → FitsIn rows calls k call

-- the parts of the call that its types leave open are such that it has a text
pub record HasText (call : Captured) : Type 0 where
  pub began : call.began ≤ last_moment
  pub ended : call.ended ≤ last_moment
  pub reply : IsGoodReply call.reply
