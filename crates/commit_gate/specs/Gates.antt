-- What a gate is seen as, and which calls are ready.
use Rattle.std.specs.Prelude.{◌≡◌, ℕ, ◌+◌, ◌<◌, Bool, true, false, cond, List, [], ◌∷◌, length, replicate, slice_index, slice_index_or, ◌&&◌}
use Rattle.replay_history.specs.declared.mode.Mode.{Mode}
use Rattle.object_depends.specs.declared.fact.Fact.{Fact}
use Rattle.object_depends.specs.Facts.{fact_at, has_table, is_commit}
use Rattle.object_depends.specs.Required.{is_required}
use Rattle.commit_gate.specs.declared.mark.Watch.{Watch}
use Rattle.commit_gate.specs.declared.mark.Watch.TheVariants.{Every, Commits, Table}

-- whether a stamp stands in a set of stamps
abbrev pub is_in : List Bool → ℕ → Bool
is_in stamps k = slice_index_or stamps k false

-- whether a call is of the kind that is watched: every call, the numbered commits, those that wrote a table
abbrev pub watches : Watch → Fact → Bool
watches Every fact = true
watches Commits fact = is_commit fact
watches (Table table) fact = is_commit fact && has_table fact.writes table

-- a gate: the facts by stamp, the mode, and for each stamp whether it is started and whether it is answered
pub record GateView : Type 0 where
  pub facts : List Fact
  pub mode : Mode
  pub started : List Bool
  pub answered : List Bool

-- a gate where no call is started
abbrev pub new_gate : List Fact → Mode → GateView
new_gate facts mode =
    record { facts = facts; mode = mode; started = replicate (length facts) false; answered = replicate (length facts) false }

-- call j is the call of the session of k before it
pub record IsBefore (facts : List Fact) (k j : ℕ) : Type 0 where
  pub below : j < k
  pub session : (fact_at facts j).session ≡ (fact_at facts k).session
  pub next : (i : ℕ) → j < i → i < k → (fact_at facts i).session ≡ (fact_at facts k).session → ⊥

-- the call of its session before call k, if any, is answered
abbrev pub IsTurn : List Fact → List Bool → ℕ → Type 0
IsTurn facts answered k = (j : ℕ) → IsBefore facts k j → is_in answered j ≡ true

-- each call that call k requires is answered
abbrev pub AreRequiredAnswered : Mode → List Fact → List Bool → ℕ → Type 0
AreRequiredAnswered mode facts answered k = (j : ℕ) → is_required mode facts k j ≡ true → is_in answered j ≡ true

-- call k may be started
pub record IsReady (gate : GateView) (k : ℕ) : Type 0 where
  pub stamp : k < length gate.facts
  pub fresh : is_in gate.started k ≡ false
  pub turn : IsTurn gate.facts gate.answered k
  pub required : AreRequiredAnswered gate.mode gate.facts gate.answered k

abbrev pub AreAllAnswered : GateView → Type 0
AreAllAnswered gate = (j : ℕ) → j < length gate.facts → is_in gate.answered j ≡ true

-- the least stamp that is not answered
pub record IsFirstOpen (gate : GateView) (k : ℕ) : Type 0 where
  pub stamp : k < length gate.facts
  pub unanswered : is_in gate.answered k ≡ false
  pub least : (j : ℕ) → j < k → is_in gate.answered j ≡ true

-- how many of the calls that pass a test are answered, from the first on up to the first that is not
abbrev pub front : (Fact → Bool) → List Fact → List Bool → ℕ
front test [] answered = 0
front test (fact ∷ facts) [] = 0
front test (fact ∷ facts) (done ∷ answered) = cond (test fact) (cond done (1 + front test facts answered) 0) (front test facts answered)

-- call k is a ready call of the session
abbrev pub IsReadyOf : GateView → ℕ → ℕ → Type 0
IsReadyOf gate session k = IsReady gate k × ((fact_at gate.facts k).session ≡ session)

abbrev pub NoneReady : GateView → ℕ → Type 0
NoneReady gate session = (k : ℕ) → IsReadyOf gate session k → ⊥

-- call k is ready, and no session that the lane lists before its own has a ready call
abbrev pub IsPick : GateView → List ℕ → ℕ → Type 0
IsPick gate lane k = (i : ℕ) × (i < length lane) × IsReadyOf gate (slice_index lane i) k
    × ((j : ℕ) → j < i → NoneReady gate (slice_index lane j))

-- every call of the session is answered
abbrev pub IsDoneOf : GateView → ℕ → Type 0
IsDoneOf gate session = (k : ℕ) → k < length gate.facts → (fact_at gate.facts k).session ≡ session
    → is_in gate.answered k ≡ true
