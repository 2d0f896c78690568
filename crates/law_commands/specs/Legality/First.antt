-- Where a test that goes over calls first fails, and the plan of calls.
use Rattle.std.specs.Prelude.{◌≡◌, ℕ, ◌<◌, List, ◌++◌, take, None, Some, Ok}
use Rattle.desk_values.specs.declared.capture.Captured.{Captured}
use Rattle.desk_schema.specs.Start.{StartView}
use Rattle.replay_history.specs.Gap.{IsCallAt}
use Rattle.captured_calls.specs.declared.refusal.Refusal.{Refusal}
use Rattle.captured_calls.specs.Scan.{Test}
use Rattle.captured_calls.specs.Facts.{facts_of}
use Rattle.captured_calls.specs.Verdict.{Preparation, verdict}

-- the calls before this place pass the test
abbrev pub PassBefore : Test Refusal → List Captured → List Captured → ℕ → Type 0
PassBefore test before calls k = (j : ℕ) (call : Captured) → j < k → IsCallAt calls j call
    → test (before ++ take j calls) call ≡ None

-- behind other calls, the test refuses a call so, and none before it
pub record IsFirstRefused (test : Test Refusal) (before calls : List Captured) (refusal : Refusal) : Type 0 where
  pub place : ℕ
  pub call : Captured
  pub there : IsCallAt calls place call
  pub refuses : test (before ++ take place calls) call ≡ Some refusal
  pub earlier : PassBefore test before calls place

-- each call passes
abbrev pub IsNeverRefused : Test Refusal → List Captured → List Captured → Type 0
IsNeverRefused test before calls = (k : ℕ) (call : Captured) → IsCallAt calls k call → test (before ++ take k calls) call ≡ None

-- the plan of calls by stamp: they, and what is known of each
abbrev pub plan_of : StartView → List Captured → Preparation
plan_of start calls = record { calls = calls; facts = facts_of start.schema calls }

-- the verdict gives a plan
abbrev pub IsTaken : StartView → List (List Captured) → Type 0
IsTaken start lists = (plan : Preparation) × (verdict start lists ≡ Ok plan)
