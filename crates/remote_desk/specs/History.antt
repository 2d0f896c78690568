-- Which histories a replay may have whose calls are answered elsewhere. As a history, such a one is one list of events: legality
-- speaks of places in it.
use Rattle.std.specs.Prelude.{◌≡◌, ℕ, ◌<◌, List, [], ◌∷◌, slice_get, take, Some}
use Rattle.std.specs.List.{flat_map, fold}
use Rattle.desk_values.specs.declared.call.Call.{Call}
use Rattle.desk_values.specs.declared.call.Reply.{Reply}
use Rattle.desk_values.specs.declared.capture.Captured.{Captured}
use Rattle.desk_values.specs.declared.capture.Event.{Event}
use Rattle.desk_values.specs.declared.capture.Event.TheVariants as event
use Rattle.desk_values.specs.Good.{IsGoodReply}
use Rattle.replay_history.specs.Gap.{IsCallAt}
use Rattle.id_pairs.specs.Pairs.{IdPair, all_new}
use Rattle.remap_ids.specs.IdMap.{start_pairs}
use Rattle.remap_ids.specs.Sent.{sent}
use Rattle.replay_job.specs.Job.{JobView}
use Rattle.replay_job.specs.Runs.{IsLegalFor, learnt_from}
use Rattle.remote_desk.specs.declared.event.RemoteEvent.{RemoteEvent}
use Rattle.remote_desk.specs.declared.event.RemoteEvent.TheVariants.{Start, Sent, Answer}

-- ---- without what was sent

abbrev pub plain_of : RemoteEvent → List Event
plain_of (Start k pause) = event.Start k pause ∷ []
plain_of (Sent k call) = []
plain_of (Answer k reply) = event.Answer k reply ∷ []

-- the starts and the answers alone
abbrev pub plain : List RemoteEvent → List Event
plain events = flat_map plain_of events

-- ---- the pairs of ids

-- with what the two replies to the call give, but for pairs of ids of which one has a pair already: another server may give
-- an id twice
abbrev pub with_pairs : List Captured → List IdPair → RemoteEvent → List IdPair
with_pairs calls pairs (Start k pause) = pairs
with_pairs calls pairs (Sent k call) = pairs
with_pairs calls pairs (Answer k reply) = all_new pairs (learnt_from (slice_get calls k) reply)

-- behind these events
abbrev pub pairs_behind : JobView → List RemoteEvent → List IdPair
pairs_behind job events = fold (with_pairs job.calls) (start_pairs job.start) events

-- ---- places

-- at this place the call with this stamp starts
abbrev pub StartsAt : List RemoteEvent → ℕ → ℕ → ℕ → Type 0
StartsAt events i k pause = slice_get events i ≡ Some (Start k pause)

-- at this place this is sent for it
abbrev pub SendsAt : List RemoteEvent → ℕ → ℕ → Call → Type 0
SendsAt events i k call = slice_get events i ≡ Some (Sent k call)

-- at this place it is answered
abbrev pub AnswersAt : List RemoteEvent → ℕ → ℕ → Reply → Type 0
AnswersAt events i k reply = slice_get events i ≡ Some (Answer k reply)

abbrev pub IsStartedBefore : List RemoteEvent → ℕ → ℕ → Type 0
IsStartedBefore events i k = (j : ℕ) × (pause : ℕ) × (j < i) × StartsAt events j k pause

abbrev pub IsSentBefore : List RemoteEvent → ℕ → ℕ → Type 0
IsSentBefore events i k = (j : ℕ) × (call : Call) × (j < i) × SendsAt events j k call

-- something is sent for the call
abbrev pub IsSent : List RemoteEvent → ℕ → Type 0
IsSent events k = (i : ℕ) × (call : Call) × SendsAt events i k call

-- ---- legal

-- Without what was sent it is a legal history of the job. For each call one thing is sent at most: between its start and its
-- answer, the captured call by the pairs so far. Each reply can be written.
pub record IsRemoteHistory (job : JobView) (events : List RemoteEvent) : Type 0 where
  pub legal : IsLegalFor job (plain events)
  pub sent_once : (i j k : ℕ) (call other : Call) → SendsAt events i k call → SendsAt events j k other → i ≡ j
  pub sent_started : (i k : ℕ) (call : Call) → SendsAt events i k call → IsStartedBefore events i k
  pub sent_is : (i k : ℕ) (call : Call) → SendsAt events i k call → (captured : Captured) × IsCallAt job.calls k captured
      × (call ≡ sent (pairs_behind job (take i events)) job.remap captured.call)
  pub answer_sent : (i k : ℕ) (reply : Reply) → AnswersAt events i k reply → IsSentBefore events i k
  pub good : (i k : ℕ) (reply : Reply) → AnswersAt events i k reply → IsGoodReply reply
