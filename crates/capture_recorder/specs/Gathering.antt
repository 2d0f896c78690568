-- Where the recorder and the doors of all sessions agree, and what they differ in first.
use Rattle.std.specs.Prelude.{◌≡◌, ◌≢◌, ℕ, ◌+◌, ◌-◌, Bool, true, false, ◌&&◌, ◌==◌, nat_eq, nat_le, nat_lt, if◌then◌else◌, max, List, [], ◌∷◌, length, map, take, slice_get, Option, None, Some, option_map, Result, Ok, Err}
use Rattle.std.specs.Option.{option_or, unwrap_or}
use Rattle.std.specs.Cmp.Lexicographic.{pointwise}
use Rattle.std.specs.List.{list_any, range_with_len}
use Rattle.desk_values.specs.Limits.{session_limit}
use Rattle.desk_values.specs.Room.{Room}
use Rattle.desk_values.specs.declared.value.Image.{Image}
use Rattle.desk_values.specs.declared.call.Call.{Call}
use Rattle.desk_values.specs.declared.call.Call.TheVariants.{Connect, Sql, Disconnect}
use Rattle.desk_values.specs.declared.capture.Captured.{Captured}
use Rattle.desk_schema.specs.Start.{StartView}
use Rattle.replay_history.specs.Capture.{binds_of}
use Rattle.captured_calls.specs.Known.{ids_known, is_stranger}
use Rattle.captured_calls.specs.Same.{same_reply, same_values}
use Rattle.captured_calls.specs.Sessions.{calls_of, session_lists}
use Rattle.capture_recorder.specs.Limits.{accepted_limit}
use Rattle.capture_recorder.specs.Recording.{Recording}
use Rattle.capture_recorder.specs.declared.door.Said.{Said}
use Rattle.capture_recorder.specs.declared.door.Turned.{Turned}
use Rattle.capture_recorder.specs.declared.gathering.GatherErr.{GatherErr}
use Rattle.capture_recorder.specs.declared.gathering.GatherErr.TheVariants.{OtherStart, Mismatch, Refusal, Memory}

-- ---- what was said

abbrev pub same_call : Call → Call → Bool
same_call (Connect a) (Connect b) = pointwise nat_eq a b
same_call (Sql a binds) (Sql b others) = pointwise nat_eq a b && same_values binds others
same_call Disconnect Disconnect = true
same_call left right = false

abbrev pub same_said : Said → Said → Bool
same_said a b = same_call a.call b.call && same_reply a.reply b.reply

abbrev pub said_of : Captured → Said
said_of call = record { call = call.call; reply = call.reply }

-- what the recorder has of a session: its calls with their replies, in order
abbrev pub kept_in : List Captured → ℕ → List Said
kept_in calls session = map said_of (calls_of session calls)

-- what the session's door has; a session beyond the lists has said nothing
abbrev pub said_in : List (List Said) → ℕ → List Said
said_in lists session = unwrap_or (slice_get lists session) []

-- the first place at which two lists differ, counted from this number on
abbrev pub first_difference : ℕ → List Said → List Said → Option ℕ
first_difference place [] [] = None
first_difference place (one ∷ more) [] = Some place
first_difference place [] (other ∷ others) = Some place
first_difference place (one ∷ more) (other ∷ others) = if same_said one other then first_difference (place + 1) more others else Some place

-- with what stands there on both sides
abbrev pub difference : ℕ → List Said → List Said → Option GatherErr
difference session kept said = option_map (λ place. Mismatch session place (slice_get kept place) (slice_get said place)) (first_difference 0 kept said)

abbrev pub mismatch_in : List Captured → List (List Said) → ℕ → Option GatherErr
mismatch_in calls lists session = difference session (kept_in calls session) (said_in lists session)

-- the first of what is told of the sessions
abbrev pub first_of : (ℕ → Option GatherErr) → List ℕ → Option GatherErr
first_of told [] = None
first_of told (session ∷ sessions) = option_or (told session) (first_of told sessions)

-- in the first session where the lists differ
abbrev pub mismatch : List Captured → List (List Said) → Option GatherErr
mismatch calls lists = first_of (mismatch_in calls lists) (range_with_len 0 (max session_limit (length lists)))

-- ---- what was turned away

-- the session's call just before a place
abbrev pub call_before : List Captured → ℕ → Option Captured
call_before own place = if place == 0 then None else slice_get own (place - 1)

-- its stamp is below this number, if there is one
abbrev pub is_below : ℕ → Option Captured → Bool
is_below held None = true
is_below held (Some call) = nat_lt call.stamp held

-- the cause of an entry, as long as the recorder held so many calls: it was full, or some bind was an id that neither the
-- rows of the start nor one of those calls had given
abbrev pub is_cause : List Image → List Captured → Turned → Bool
is_cause rows calls entry =
    if entry.full then nat_le accepted_limit entry.held
    else nat_lt entry.held accepted_limit && list_any (is_stranger (ids_known rows (take entry.held calls))) (binds_of entry.call)

-- a session's entry is borne out: there were so many calls of the session and of all, and its cause was there
abbrev pub is_borne_out : List Image → List Captured → ℕ → Turned → Bool
is_borne_out rows calls session entry =
    let own = calls_of session calls in
    (nat_le entry.place (length own) && nat_le entry.held (length calls)) && (is_below entry.held (call_before own entry.place) && is_cause rows calls entry)

-- the first entry of a session that is not, counted from this number on
abbrev pub refusal_in : List Image → List Captured → ℕ → ℕ → List Turned → Option GatherErr
refusal_in rows calls session n [] = None
refusal_in rows calls session n (entry ∷ entries) = if is_borne_out rows calls session entry then refusal_in rows calls session (n + 1) entries else Some (Refusal session n entry)

-- and of all sessions, counted from this number on
abbrev pub refusal : List Image → List Captured → ℕ → List (List Turned) → Option GatherErr
refusal rows calls session [] = None
refusal rows calls session (entries ∷ lists) = option_or (refusal_in rows calls session 0 entries) (refusal rows calls (session + 1) lists)

-- ---- the answer

abbrev pub lists_of : {X : Type 0} → List (Room X) → List (List X)
lists_of {X} lists = map (λ (list : Room X). list.items) lists

-- Each answer with its cause: the starts are compared first, then what was said, then what was turned away. Where all agree,
-- the answer is the calls by session, for as many sessions as there are lists. Want of memory has no cause.
abbrev pub Gathers : StartView → Recording → List (List Said) → List (List Turned) → Result (List (Room Captured)) GatherErr → Type 0
Gathers start r lists turned (Ok sessions) =
    (r.start ≡ start) × (mismatch r.calls lists ≡ None) × (refusal r.start.rows r.calls 0 turned ≡ None) × (lists_of sessions ≡ session_lists (length lists) r.calls)
Gathers start r lists turned (Err (OtherStart kept)) = (r.start ≢ start) × (kept ≡ r.start)
Gathers start r lists turned (Err (Mismatch session place kept said)) = (r.start ≡ start) × (mismatch r.calls lists ≡ Some (Mismatch session place kept said))
Gathers start r lists turned (Err (Refusal session n entry)) =
    (r.start ≡ start) × (mismatch r.calls lists ≡ None) × (refusal r.start.rows r.calls 0 turned ≡ Some (Refusal session n entry))
Gathers start r lists turned (Err Memory) = Unit {0}
