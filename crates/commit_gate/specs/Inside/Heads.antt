-- The first call of each session that is not answered, and the call of its session behind each call.
use Rattle.std.specs.Prelude.{◌≡◌, ℕ, ◌<◌, ◌≤◌, Bool, true, false, ◌+◌, List, length, slice_index, Option, MatchOption}
use Rattle.object_depends.specs.declared.fact.Fact.{Fact}
use Rattle.object_depends.specs.Facts.{fact_at}
use Rattle.commit_gate.specs.Gates.{is_in}

-- no call of the session stands between the first stamp and the second
abbrev pub NoneBetween : List Fact → ℕ → ℕ → ℕ → Type 0
NoneBetween facts session from to = (j : ℕ) → from ≤ j → j < to → (fact_at facts j).session ≡ session → ⊥

-- the first call of the session from a stamp on, or the number of all calls
pub record IsNextFrom (facts : List Fact) (session from next : ℕ) : Type 0 where
  pub after : from ≤ next
  pub within : next ≤ length facts
  pub none : NoneBetween facts session from next
  pub here : next < length facts → (fact_at facts next).session ≡ session

-- behind each call from a stamp on stands the next one of its session
abbrev pub AreNexts : List Fact → List ℕ → ℕ → Type 0
AreNexts facts nexts from = (k : ℕ) → from ≤ k → k < length facts
    → IsNextFrom facts (fact_at facts k).session (k + 1) (slice_index nexts k)

-- of each session that has a call from a stamp on the first of these
abbrev pub AreFirstHeads : List Fact → (ℕ → Option ℕ) → ℕ → Type 0
AreFirstHeads facts head from = (session : ℕ)
    → MatchOption (head session) (NoneBetween facts session from (length facts)) (IsNextFrom facts session from)

-- the first call of the session that is not answered, or the number of all calls
pub record IsHead (facts : List Fact) (answered : List Bool) (session at : ℕ) : Type 0 where
  pub within : at ≤ length facts
  pub below : (j : ℕ) → j < at → (fact_at facts j).session ≡ session → is_in answered j ≡ true
  pub own : at < length facts → (fact_at facts at).session ≡ session
  pub unanswered : at < length facts → is_in answered at ≡ false

-- of each session that has a call
abbrev pub AreHeads : List Fact → List Bool → (ℕ → Option ℕ) → Type 0
AreHeads facts answered head = (session : ℕ)
    → MatchOption (head session) (NoneBetween facts session 0 (length facts)) (IsHead facts answered session)
