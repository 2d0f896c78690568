-- The laws of a gate that follows a history.
use Rattle.std.specs.Prelude.{◌≡◌, ◌↔◌, ℕ, ◌+◌, ◌<◌, ◌⊎◌, true, false, List, [], ◌∷◌, ◌++◌, Option, MatchOption, IfSome, EachIndex, length, replicate, slice_index, slice_set, Bool}
use Rattle.desk_values.specs.declared.call.Reply.{Reply}
use Rattle.desk_values.specs.declared.capture.Captured.{Captured}
use Rattle.desk_values.specs.declared.capture.Event.{Event}
use Rattle.desk_values.specs.declared.capture.Event.TheVariants.{Start, Answer}
use Rattle.replay_history.specs.Gap.{IsCallAt}
use Rattle.replay_history.specs.History.{AnswersAll, IsWaiting}
use Rattle.commit_gate.specs.Gates.{AreAllAnswered, GateView, IsDoneOf, IsFirstOpen as IsFirstOpenIn, IsPick as IsPickIn, IsReady, NoneReady, is_in, new_gate}
use Rattle.replay_job.specs.Job.{IsReplayable, JobView}
use Rattle.replay_job.specs.Runs.{IsSessionDone, IsFirstOpen, IsPauseIn, IsPick, MayStart, NoneMayStart}
use Rattle.replay_schedule.specs.Gates.Following.{IsGateOf}

-- of each gate that follows a history of a job
abbrev pub OfEach : (JobView → List Event → GateView → List Bool → Type 0) → Type 0
OfEach P = (job : JobView) (history : List Event) (gate : GateView) (waiting : List Bool)
    → IsGateOf job history gate waiting → P job history gate waiting

-- ---- what it says is what the history says

abbrev pub ReadyIsMayStart : Type 0
ReadyIsMayStart = OfEach (λ job history gate waiting. (k : ℕ) → IsReady gate k ↔ MayStart job history k)

abbrev pub WaitingIsBetween : Type 0
WaitingIsBetween = OfEach (λ job history gate waiting. (k : ℕ) → (is_in waiting k ≡ true) ↔ IsWaiting history k)

abbrev pub PickIsFirst : Type 0
PickIsFirst = OfEach (λ job history gate waiting. (lane : List ℕ) (found : Option ℕ)
    → MatchOption found (EachIndex lane (λ i. NoneReady gate (slice_index lane i))) (IsPickIn gate lane)
    → MatchOption found (EachIndex lane (λ i. NoneMayStart job history (slice_index lane i))) (IsPick job history lane))

abbrev pub DoneIsAnswered : Type 0
DoneIsAnswered = OfEach
    (λ job history gate waiting. (lane : List ℕ)
    → EachIndex lane (λ i. IsDoneOf gate (slice_index lane i)) ↔ EachIndex lane (λ i. IsSessionDone job history (slice_index lane i)))

abbrev pub FirstOpenIsLeast : Type 0
FirstOpenIsLeast = OfEach (λ job history gate waiting. (found : Option ℕ)
    → MatchOption found (AreAllAnswered gate) (IsFirstOpenIn gate)
    → MatchOption found (AnswersAll job.calls history) (IsFirstOpen job history))

abbrev pub FirstOpenIsFree : Type 0
FirstOpenIsFree = OfEach (λ job history gate waiting. (found : Option ℕ)
    → MatchOption found (AreAllAnswered gate) (IsFirstOpenIn gate)
    → IfSome found (λ k. (is_in gate.started k ≡ true) ⊎ IsReady gate k)
    → IfSome found (λ k. IsWaiting history k ⊎ MayStart job history k))

-- ---- it follows

abbrev pub NewGateFollows : Type 0
NewGateFollows = (job : JobView) → IsReplayable job → IsGateOf job [] (new_gate job.facts job.mode) (replicate (length job.calls) false)

abbrev pub StartIsFollowed : Type 0
StartIsFollowed = OfEach
    (λ job history gate waiting. (k pause : ℕ) → MayStart job history k
    → ((call : Captured) → IsCallAt job.calls k call → IsPauseIn job call pause)
    → IsGateOf job (history ++ Start k pause ∷ []) (record gate { started = slice_set gate.started k true }) (slice_set waiting k true))

-- a call that may start waits once it has
abbrev pub StartedCallsWait : Type 0
StartedCallsWait = OfEach
    (λ job history gate waiting. (k pause : ℕ) → MayStart job history k → IsWaiting (history ++ Start k pause ∷ []) k)

abbrev pub AnswerIsFollowed : Type 0
AnswerIsFollowed = OfEach (λ job history gate waiting. (k : ℕ) (reply : Reply) → IsWaiting history k
    → IsGateOf job (history ++ Answer k reply ∷ []) (record gate { answered = slice_set gate.answered k true })
    (slice_set waiting k false))

-- a call that may start or waits stands among the calls, and there are fewer events than a start and an answer of each call
abbrev pub OpenCallsHaveRoom : Type 0
OpenCallsHaveRoom = OfEach (λ job history gate waiting. (k : ℕ) → MayStart job history k ⊎ IsWaiting history k
    → (k < length job.calls) × (is_in gate.answered k ≡ false) × (length history < length job.calls + length job.calls))
