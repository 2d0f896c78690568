-- The laws of histories with one event more, and of the places of calls.
use Rattle.std.specs.Prelude.{◌≡◌, ◌↔◌, ℕ, ◌<◌, ◌≤◌, List, [], ◌∷◌, ◌++◌}
use Rattle.desk_values.specs.declared.call.Reply.{Reply}
use Rattle.desk_values.specs.declared.capture.Captured.{Captured}
use Rattle.desk_values.specs.declared.capture.Event.{Event}
use Rattle.desk_values.specs.declared.capture.Event.TheVariants.{Start, Answer}
use Rattle.replay_history.specs.Gap.{IsCallAt, IsGap, IsJustBefore, gap_of}
use Rattle.replay_history.specs.History.{IsLegalHistory, IsTruthfulHistory, IsWaiting}
use Rattle.law_histories.specs.Going.{MayGo}
use Rattle.law_histories.specs.Places.{AreInPlace}

-- ---- one event more: `required` and `paused` are as in `IsLegalHistory`, `executes` as in `IsTruthfulHistory`

abbrev pub LegalWithAStart : (ℕ → ℕ → Type 0) → (Captured → ℕ → Type 0) → Type 0
LegalWithAStart required paused = (calls : List Captured) (history : List Event) (k pause : ℕ)
    → IsLegalHistory calls required paused history
    → IsLegalHistory calls required paused (history ++ Start k pause ∷ []) ↔ MayGo calls required paused history k pause

abbrev pub LegalWithAnAnswer : (ℕ → ℕ → Type 0) → (Captured → ℕ → Type 0) → Type 0
LegalWithAnAnswer required paused = (calls : List Captured) (history : List Event) (k : ℕ) (reply : Reply)
    → IsLegalHistory calls required paused history
    → IsLegalHistory calls required paused (history ++ Answer k reply ∷ []) ↔ IsWaiting history k

abbrev pub TruthfulWithAStart : {S : Type 0} → (S → ℕ → Reply → S → Type 0) → Type 0
TruthfulWithAStart {S} executes = (first last : S) (history : List Event) (k pause : ℕ)
    → IsTruthfulHistory executes first (history ++ Start k pause ∷ []) last ↔ IsTruthfulHistory executes first history last

abbrev pub TruthfulWithAnAnswer : {S : Type 0} → (S → ℕ → Reply → S → Type 0) → Type 0
TruthfulWithAnAnswer {S} executes = (first last : S) (history : List Event) (k : ℕ) (reply : Reply)
    → IsTruthfulHistory executes first (history ++ Answer k reply ∷ []) last
    ↔ ((mid : S) × IsTruthfulHistory executes first history mid × executes mid k reply last)

-- ---- the calls of a session

abbrev pub PlacesRise : Type 0
PlacesRise = (calls : List Captured) → AreInPlace calls → (j k : ℕ) (before call : Captured)
    → IsCallAt calls j before → IsCallAt calls k call → before.session ≡ call.session → j < k
    → before.place < call.place

-- the one call just before a call, which stands before it
abbrev pub IsOneBefore : List Captured → ℕ → Captured → ℕ → Captured → Type 0
IsOneBefore calls k call j before = (j < k) × IsCallAt calls j before × IsJustBefore before call
    × ((i : ℕ) (other : Captured) → IsCallAt calls i other → IsJustBefore other call → (i ≡ j) × (other ≡ before))

abbrev pub CallsHaveOneBefore : Type 0
CallsHaveOneBefore = (calls : List Captured) → AreInPlace calls → (k : ℕ) (call : Captured)
    → IsCallAt calls k call → 0 < call.place
    → (j : ℕ) × (before : Captured) × IsOneBefore calls k call j before

-- the one time before a call, at most from the capture's start to the call
abbrev pub IsOneGap : List Captured → Captured → ℕ → Type 0
IsOneGap calls call gap = IsGap calls call gap × (gap ≤ call.began) × ((other : ℕ) → IsGap calls call other → other ≡ gap)

abbrev pub CallsHaveOneGap : Type 0
CallsHaveOneGap = (calls : List Captured) → AreInPlace calls → (k : ℕ) (call : Captured)
    → IsCallAt calls k call → IsOneGap calls call (gap_of calls call)
