-- Calls that stand at their places.
use Rattle.std.specs.Prelude.{◌≡◌, ℕ, ◌<◌, List}
use Rattle.desk_values.specs.declared.capture.Captured.{Captured}
use Rattle.desk_values.specs.Limits.{session_limit}
use Rattle.replay_history.specs.Gap.{IsCallAt}
use Rattle.replay_history.specs.Capture.{HasPlace}

-- the call has a session's number, and as many calls of its session before it as it says
pub record IsInPlace (calls : List Captured) (k : ℕ) (call : Captured) : Type 0 where
  pub session : call.session < session_limit
  pub place : HasPlace calls k call

-- so have the calls of a legal capture
abbrev pub AreInPlace : List Captured → Type 0
AreInPlace calls = (k : ℕ) (call : Captured) → IsCallAt calls k call → IsInPlace calls k call
