-- Which event may come next in a history.
use Rattle.std.specs.Prelude.{ℕ, List}
use Rattle.desk_values.specs.declared.capture.Captured.{Captured}
use Rattle.desk_values.specs.declared.capture.Event.{Event}
use Rattle.replay_history.specs.Gap.{IsCallAt, IsJustBefore}
use Rattle.replay_history.specs.History.{IsAnswered, IsStarted}

-- call k may start now, with this pause
pub record MayGo (calls : List Captured) (required : ℕ → ℕ → Type 0) (paused : Captured → ℕ → Type 0)
    (history : List Event) (k pause : ℕ) : Type 0 where
  pub is_call : (call : Captured) × IsCallAt calls k call × paused call pause
  pub fresh : IsStarted history k → ⊥
  pub turn : (call before : Captured) (j : ℕ) → IsCallAt calls k call → IsCallAt calls j before
      → IsJustBefore before call → IsAnswered history j
  pub needs : (j : ℕ) → required k j → IsAnswered history j
