-- Which histories a replay of a job may have.
use Rattle.std.specs.Prelude.{◌≡◌, ℕ, ◌<◌, true, List, [], ◌∷◌, ◌++◌, length, slice_index, slice_get, Option, None, Some}
use Rattle.std.specs.List.{flat_map}
use Rattle.desk_values.specs.declared.capture.Captured.{Captured}
use Rattle.desk_values.specs.declared.capture.Event.{Event}
use Rattle.desk_values.specs.declared.capture.Event.TheVariants.{Start, Answer}
use Rattle.desk_values.specs.declared.call.Reply.{Reply}
use Rattle.desk_values.specs.declared.value.Image.{Image}
use Rattle.server_words.specs.State.{State, opening, tables}
use Rattle.server_words.specs.Step.{Gives}
use Rattle.replay_history.specs.Gap.{IsCallAt, pause_before}
use Rattle.replay_history.specs.History.{IsAnswered, IsCompleteRun, IsLegalHistory, IsTruthfulHistory}
use Rattle.object_depends.specs.Required.{is_required}
use Rattle.id_pairs.specs.Pairs.{IdPair, learnt}
use Rattle.remap_ids.specs.IdMap.{start_pairs}
use Rattle.remap_ids.specs.Sent.{sent}
use Rattle.replay_job.specs.Job.{JobView}

-- ---- legal

-- call k waits for the answer of call j, by the mode
abbrev pub Requires : JobView → ℕ → ℕ → Type 0
Requires job k j = is_required job.mode job.facts k j ≡ true

-- the pause before a call
abbrev pub IsPauseIn : JobView → Captured → ℕ → Type 0
IsPauseIn job call pause = pause ≡ pause_before job.calls job.connect job.think call

-- the events start and answer calls of the job, each once, in their sessions' order, with their pauses, and after what they wait for
abbrev pub IsLegalFor : JobView → List Event → Type 0
IsLegalFor job history = IsLegalHistory job.calls (Requires job) (IsPauseIn job) history

-- the call with this stamp may start after these events
abbrev pub MayStart : JobView → List Event → ℕ → Type 0
MayStart job history k = (pause : ℕ) × IsLegalFor job (history ++ Start k pause ∷ [])

-- ---- where a replay stands

-- the call with this stamp is one of the session's
abbrev pub IsCallOf : JobView → ℕ → ℕ → Type 0
IsCallOf job session k = (call : Captured) × IsCallAt job.calls k call × (call.session ≡ session)

abbrev pub NoneMayStart : JobView → List Event → ℕ → Type 0
NoneMayStart job history session = (k : ℕ) → IsCallOf job session k → MayStart job history k → ⊥

-- the call may start, and is one of the first session of the lane that has such a call
abbrev pub IsPick : JobView → List Event → List ℕ → ℕ → Type 0
IsPick job history lane k = MayStart job history k
    × ((i : ℕ) × (i < length lane) × IsCallOf job (slice_index lane i) k
    × ((j : ℕ) → j < i → NoneMayStart job history (slice_index lane j)))

-- each call of the session is answered
abbrev pub IsSessionDone : JobView → List Event → ℕ → Type 0
IsSessionDone job history session = (k : ℕ) → IsCallOf job session k → IsAnswered history k

-- the least stamp of a call that is not answered
pub record IsFirstOpen (job : JobView) (history : List Event) (k : ℕ) : Type 0 where
  pub stamp : k < length job.calls
  pub unanswered : IsAnswered history k → ⊥
  pub least : (j : ℕ) → j < k → IsAnswered history j

-- ---- truthful

-- how far a replay has come: the server's state, and the pairs of captured and replayed ids
pub record Stage : Type 0 where
  pub state : State
  pub pairs : List IdPair

-- the tables after all commits
abbrev pub end_tables : State → List Image
end_tables state = tables state (length state.commits)

-- the server has just begun with the target, and each id of the captured start stands for itself
abbrev pub first_stage : JobView → Stage
first_stage job = record { state = opening job.target; pairs = start_pairs job.start }

-- Executing the call with this stamp: what is sent in its place by the pairs so far gets this reply, and the pairs of its two
-- replies are learnt.
abbrev pub Executes : JobView → Stage → ℕ → Reply → Stage → Type 0
Executes job old k reply new = (call : Captured) × IsCallAt job.calls k call
    × Gives old.state call.session (sent old.pairs job.remap call.call) reply new.state
    × (new.pairs ≡ old.pairs ++ learnt call.reply reply)

-- the pairs that an answer to a call brings
abbrev pub learnt_from : Option Captured → Reply → List IdPair
learnt_from None reply = []
learnt_from (Some call) reply = learnt call.reply reply

-- those that an event brings, where these are the calls by stamp
abbrev pub gained : List Captured → Event → List IdPair
gained calls (Start k pause) = []
gained calls (Answer k reply) = learnt_from (slice_get calls k) reply

-- those that a history brings
abbrev pub learnt_in : List Captured → List Event → List IdPair
learnt_in calls events = flat_map (gained calls) events

-- each answer is what one server answers there, and that server and the pairs come to the last stage
abbrev pub IsTruthfulFor : JobView → List Event → Stage → Type 0
IsTruthfulFor job history last = IsTruthfulHistory (Executes job) (first_stage job) history last

-- legal, truthful, and every call is answered
abbrev pub IsCompleteFor : JobView → List Event → Stage → Type 0
IsCompleteFor job history last = IsCompleteRun job.calls (Requires job) (IsPauseIn job) (Executes job) (first_stage job) history last
