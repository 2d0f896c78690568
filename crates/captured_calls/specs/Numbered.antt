-- Calls whose numbers are those of their commits, and what is known of them.
use Rattle.std.specs.Prelude.{◌≡◌, ℕ, List, length}
use Rattle.desk_values.specs.declared.capture.Captured.{Captured}
use Rattle.object_depends.specs.declared.fact.Fact.{Fact}
use Rattle.object_depends.specs.Facts.{fact_at}
use Rattle.replay_history.specs.Capture.{commits_before, number_of}
use Rattle.replay_history.specs.Gap.{IsCallAt}

-- each call saw the numbered commits in front of it, and has the next number where it is one itself
abbrev pub AreNumbered : List Captured → Type 0
AreNumbered calls = (k : ℕ) (call : Captured) → IsCallAt calls k call
    → (call.seen ≡ commits_before calls k) × (call.number ≡ number_of calls k call)

-- what is known of each call agrees with it
pub record AreKnown (calls : List Captured) (facts : List Fact) : Type 0 where
  pub count : length facts ≡ length calls
  pub each : (k : ℕ) (call : Captured) → IsCallAt calls k call
      → ((fact_at facts k).seen ≡ call.seen) × ((fact_at facts k).number ≡ call.number)
