-- Which histories a replay may have. A history is one list of events; legality speaks of places in it, truth is a fold over it.
use Rattle.std.specs.Prelude.{◌≡◌, ℕ, ◌<◌, Some, List, [], ◌∷◌, slice_get, length}
use Rattle.desk_values.specs.declared.call.Reply.{Reply}
use Rattle.desk_values.specs.declared.capture.Captured.{Captured}
use Rattle.desk_values.specs.declared.capture.Event.{Event}
use Rattle.desk_values.specs.declared.capture.Event.TheVariants.{Start, Answer}
use Rattle.replay_history.specs.Gap.{IsCallAt, IsJustBefore}

-- at this place the call with this stamp starts, with this pause
abbrev pub StartsAt : List Event → ℕ → ℕ → ℕ → Type 0
StartsAt history i k pause = slice_get history i ≡ Some (Start k pause)

-- at this place it is answered
abbrev pub AnswersAt : List Event → ℕ → ℕ → Reply → Type 0
AnswersAt history i k reply = slice_get history i ≡ Some (Answer k reply)

-- it is answered before this place
abbrev pub IsAnsweredBefore : List Event → ℕ → ℕ → Type 0
IsAnsweredBefore history i k = (j : ℕ) × (reply : Reply) × (j < i) × AnswersAt history j k reply

abbrev pub IsAnswered : List Event → ℕ → Type 0
IsAnswered history k = (i : ℕ) × (reply : Reply) × AnswersAt history i k reply

-- it is started before this place
abbrev pub IsStartedBefore : List Event → ℕ → ℕ → Type 0
IsStartedBefore history i k = (j : ℕ) × (pause : ℕ) × (j < i) × StartsAt history j k pause

abbrev pub IsStarted : List Event → ℕ → Type 0
IsStarted history k = (i : ℕ) × (pause : ℕ) × StartsAt history i k pause

-- it is started and not answered
abbrev pub IsWaiting : List Event → ℕ → Type 0
IsWaiting history k = IsStarted history k × (IsAnswered history k → ⊥)

-- The history of a replay of these calls, which stand by stamp. `required k j` says that call k requires the answer of call j,
-- and `paused call pause` that this is the pause of a call.
pub record IsLegalHistory (calls : List Captured) (required : ℕ → ℕ → Type 0)
    (paused : Captured → ℕ → Type 0) (history : List Event) : Type 0 where
  -- what starts is a call of the capture, with its pause
  pub start_is_call : (i k pause : ℕ) → StartsAt history i k pause → (call : Captured) × IsCallAt calls k call × paused call pause
  -- each starts once
  pub starts_once : (i j k p q : ℕ) → StartsAt history i k p → StartsAt history j k q → i ≡ j
  -- after its session's call before it
  pub session_waits : (i k pause : ℕ) → StartsAt history i k pause → (call before : Captured) (j : ℕ)
      → IsCallAt calls k call → IsCallAt calls j before → IsJustBefore before call
      → IsAnsweredBefore history i j
  -- and after all that it requires
  pub required_waits : (i k pause : ℕ) → StartsAt history i k pause → (j : ℕ) → required k j → IsAnsweredBefore history i j
  -- each is answered once
  pub answers_once : (i j k : ℕ) (reply other : Reply) → AnswersAt history i k reply → AnswersAt history j k other → i ≡ j
  -- after its start
  pub answer_started : (i k : ℕ) (reply : Reply) → AnswersAt history i k reply → IsStartedBefore history i k

-- Each answer of the history, in its order, is one step of a machine: `executes s k reply t` says that executing call k in
-- the state s gives this reply and leaves the state t. The fold goes from the first state to the last.
abbrev pub IsTruthfulHistory : {S : Type 0} → (S → ℕ → Reply → S → Type 0) → S → List Event → S → Type 0
IsTruthfulHistory executes first [] last = first ≡ last
IsTruthfulHistory executes first (Start k pause ∷ events) last = IsTruthfulHistory executes first events last
IsTruthfulHistory {S} executes first (Answer k reply ∷ events) last = (next : S) × executes first k reply next × IsTruthfulHistory executes next events last

-- every call of the capture is answered
abbrev pub AnswersAll : List Captured → List Event → Type 0
AnswersAll calls history = (k : ℕ) → k < length calls → IsAnswered history k

-- a legal and truthful history that answers every call
pub record IsCompleteRun {S : Type 0} (calls : List Captured) (required : ℕ → ℕ → Type 0)
    (paused : Captured → ℕ → Type 0) (executes : S → ℕ → Reply → S → Type 0) (first : S)
    (history : List Event) (last : S) : Type 0 where
  pub legal : IsLegalHistory calls required paused history
  pub truthful : IsTruthfulHistory executes first history last
  pub whole : AnswersAll calls history
