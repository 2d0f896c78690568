-- What is known of an answer to a door, and what an answer tells.
use Rattle.std.specs.Prelude.{◌≡◌, ◌⊎◌, ℕ, true, false, nat_le, List, [], ◌∷◌, slice_get, Option, None, Some, Result, Ok, Err}
use Rattle.std.specs.List.{list_any}
use Rattle.desk_values.specs.Answers.{IsTold}
use Rattle.desk_values.specs.Good.{IsGoodReply}
use Rattle.desk_values.specs.Ids.{is_id}
use Rattle.desk_values.specs.Room.{Room}
use Rattle.desk_values.specs.declared.call.Call.{Call}
use Rattle.desk_values.specs.declared.call.Call.TheVariants.{Disconnect}
use Rattle.desk_values.specs.declared.call.Reply.{Reply}
use Rattle.desk_values.specs.declared.capture.Captured.{Captured}
use Rattle.replay_history.specs.Capture.{binds_of}
use Rattle.captured_calls.specs.Sessions.{calls_of}
use Rattle.known_ids.specs.Knowing.{KnowsCalls}
use Rattle.known_ids.specs.declared.known.KnownIds.{KnownIds}
use Rattle.capture_recorder.specs.Gathering.{mismatch, refusal}
use Rattle.capture_recorder.specs.Limits.{accepted_limit}
use Rattle.capture_recorder.specs.Recording.{Recording}
use Rattle.capture_recorder.specs.declared.door.Said.{Said}
use Rattle.capture_recorder.specs.declared.door.Turned.{Turned}
use Rattle.capture_recorder.specs.declared.recorder.Twice.{Twice}
use Rattle.capture_recorder.specs.declared.refusal.CallErr.{CallErr}
use Rattle.capture_recorder.specs.declared.refusal.CallErr.TheVariants.{Stranger, Full, Memory}
use Rattle.capture_recorder.specs.declared.gathering.GatherErr.{GatherErr}
use Rattle.capture_recorder.specs.declared.gathering.GatherErr.TheVariants.{Memory as NoRoom}

-- what an answer says of a call, whatever the recorder that held so many calls was
abbrev pub IsAnswer : Call → ℕ → Result Twice CallErr → Type 0
IsAnswer call held (Ok twice) = IsGoodReply twice.reply × (twice.same ≡ twice.reply)
IsAnswer call held (Err Full) = nat_le accepted_limit held ≡ true
IsAnswer call held (Err Stranger) = (nat_le accepted_limit held ≡ false) × (list_any is_id (binds_of call) ≡ true)
IsAnswer call held (Err Memory) = Unit {0}

-- what is said where a session is closed, with the reply to its disconnect if there was one
abbrev pub closing : Option Reply → List Said
closing None = []
closing (Some reply) = record { call = Disconnect; reply = reply } ∷ []

-- ---- what is compared

abbrev pub passed : Unit {0} → Option GatherErr
passed tt = None

-- want of memory tells nothing
abbrev pub told : GatherErr → Option (Option GatherErr)
told NoRoom = None
told error = Some (Some error)

abbrev pub items_of : Option (Room Captured) → List Captured
items_of None = []
items_of (Some list) = list.items

-- the lists are those of the recorder's sessions; a session beyond them has no call; and the ids are known
pub record IsEvidence (r : Recording) (sessions : List (Room Captured)) (known : KnownIds) : Type 0 where
  pub own : (session : ℕ) → items_of (slice_get sessions session) ≡ calls_of session r.calls
  pub ids : KnowsCalls known r.start.rows r.calls

-- what was said is compared first, then what was turned away is judged
abbrev pub IsJudged : Recording → List (List Said) → List (List Turned) → Result (Unit {0}) GatherErr → Type 0
IsJudged r lists turned (Ok done) = (mismatch r.calls lists ≡ None) × (refusal r.start.rows r.calls 0 turned ≡ None)
IsJudged r lists turned (Err e) = IsTold (told e) (mismatch r.calls lists) ⊎ ((mismatch r.calls lists ≡ None) × IsTold (told e) (refusal r.start.rows r.calls 0 turned))
