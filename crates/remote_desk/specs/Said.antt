-- What was sent in a session, and what came back, by the events of a replay.
use Rattle.std.specs.Prelude.{◌≡◌, ℕ, Bool, false, nat_eq, ◌==◌, if◌then◌else◌, List, [], ◌∷◌, slice_get, Option, None, Some}
use Rattle.std.specs.List.{AllByRecursion, flat_map}
use Rattle.std.specs.Option.{option_or}
use Rattle.desk_values.specs.declared.call.Call.{Call}
use Rattle.desk_values.specs.declared.call.Reply.{Reply}
use Rattle.desk_values.specs.declared.capture.Captured.{Captured}
use Rattle.captured_calls.specs.Sessions.{calls_of}
use Rattle.id_pairs.specs.Pairs.{AreLike, IdPair}
use Rattle.remap_ids.specs.Sent.{sent}
use Rattle.replay_job.specs.Job.{JobView}
use Rattle.remote_link.specs.declared.heard.Heard.{Heard}
use Rattle.remote_link.specs.Heard.{heard}
use Rattle.remote_desk.specs.declared.event.RemoteEvent.{RemoteEvent}
use Rattle.remote_desk.specs.declared.event.RemoteEvent.TheVariants.{Start, Sent, Answer}

-- the call, where there is one, is of this session
abbrev pub is_of : ℕ → Option Captured → Bool
is_of session None = false
is_of session (Some call) = nat_eq call.session session

-- ---- what was sent

abbrev pub sent_at : List Captured → ℕ → RemoteEvent → List Call
sent_at calls session (Start k pause) = []
sent_at calls session (Sent k call) = if is_of session (slice_get calls k) then call ∷ [] else []
sent_at calls session (Answer k reply) = []

-- the calls that were sent in this session, in order
abbrev pub sent_in : List Captured → List RemoteEvent → ℕ → List Call
sent_in calls events session = flat_map (sent_at calls session) events

-- each two are two rows, or two draws of one sequence
abbrev pub AreAlike : List IdPair → Type 0
AreAlike pairs = AllByRecursion (λ (pair : IdPair). AreLike pair.0 pair.1) pairs

-- they are sent in the place of the first calls of the session, in order, by whatever pairs of like ids
abbrev pub AreInOrder : JobView → List RemoteEvent → Type 0
AreInOrder job events = (session i : ℕ) (one : Call) → slice_get (sent_in job.calls events session) i ≡ Some one
    → (captured : Captured) × (slice_get (calls_of session job.calls) i ≡ Some captured) × ((pairs : List IdPair) × AreAlike pairs × (one ≡ sent pairs job.remap captured.call))

-- ---- and what came back

abbrev pub reply_by : ℕ → RemoteEvent → Option Reply
reply_by k (Start j pause) = None
reply_by k (Sent j call) = None
reply_by k (Answer j reply) = if j == k then Some reply else None

-- the reply to the call with this stamp, where it is answered
abbrev pub reply_to : ℕ → List RemoteEvent → Option Reply
reply_to k [] = None
reply_to k (event ∷ events) = option_or (reply_by k event) (reply_to k events)

abbrev pub said_at : List Captured → List RemoteEvent → ℕ → RemoteEvent → List Heard
said_at calls events session (Start k pause) = []
said_at calls events session (Sent k call) = if is_of session (slice_get calls k) then heard call (reply_to k events) ∷ [] else []
said_at calls events session (Answer k reply) = []

-- each call that was sent in this session, in order, with its reply where it is answered
abbrev pub said_in : List Captured → List RemoteEvent → ℕ → List Heard
said_in calls events session = flat_map (said_at calls events session) events
