-- The tests of a capture. Each is of one call, and sees the calls before it by stamp.
use Rattle.std.specs.Prelude.{ℕ, ◌+◌, Bool, true, false, ◌&&◌, not, if◌then◌else◌, nat_eq, nat_le, List, length, map, Option, None, Some, option_map}
use Rattle.std.specs.List.{find, list_any}
use Rattle.desk_values.specs.declared.value.Image.{Image}
use Rattle.desk_values.specs.declared.call.Call.{Call}
use Rattle.desk_values.specs.declared.call.Reply.{Reply}
use Rattle.desk_values.specs.declared.capture.Captured.{Captured}
use Rattle.desk_schema.specs.Start.{StartView}
use Rattle.server_words.specs.State.{opening}
use Rattle.server_words.specs.Step.{reply_in, run}
use Rattle.replay_history.specs.Capture.{binds_of, commits_in, number_behind}
use Rattle.captured_calls.specs.declared.refusal.Refusal.{Refusal}
use Rattle.replay_history.specs.Limits.{call_limit}
use Rattle.captured_calls.specs.declared.refusal.Refusal.TheVariants.{TooMany, Stamp, Number, Seen, Times, Stranger, Reply as OtherReply}
use Rattle.captured_calls.specs.Known.{ids_known, is_stranger}
use Rattle.captured_calls.specs.Moments.{ended_in}
use Rattle.captured_calls.specs.Same.{same_reply}
pub use Rattle.captured_calls.specs.Scan.{first_told as first_refused}
use Rattle.captured_calls.specs.Stamps.{count_at, stamps_for}

abbrev pub unless : Bool → Refusal → Option Refusal
unless true refusal = None
unless false refusal = Some refusal

-- ---- how many, and by which stamps

abbrev pub too_many : List Captured → Option Refusal
too_many calls = unless (nat_le (length calls) call_limit) (TooMany (length calls))

-- the least stamp that is to be there and is not that of exactly one call
abbrev pub bad_stamp : List Captured → Option Refusal
bad_stamp calls = option_map Stamp (find (λ k. not (nat_eq (count_at calls k) 1)) (stamps_for calls))

-- ---- by the recorded replies

abbrev pub right_number : List Captured → Captured → ℕ
right_number before call = number_behind before call.reply.outcome

abbrev pub bad_number : List Captured → Captured → Option Refusal
bad_number before call = unless (nat_eq call.number (right_number before call)) (Number call.stamp call.number (right_number before call))

abbrev pub bad_seen : List Captured → Captured → Option Refusal
bad_seen before call = unless (nat_eq call.seen (commits_in before)) (Seen call.stamp call.seen (commits_in before))

-- a call begins when its session's call before it has ended, and ends no earlier
abbrev pub bad_times : List Captured → Captured → Option Refusal
bad_times before call = unless (nat_le call.began call.ended && nat_le (ended_in call.session before) call.began) (Times call.stamp)

abbrev pub bad_ids : List Image → List Captured → Captured → Option Refusal
bad_ids rows before call = unless (not (list_any (is_stranger (ids_known rows before)) (binds_of call.call))) (Stranger call.stamp)

-- ---- by the machine

-- who asks, and what
abbrev pub asked : List Captured → List (ℕ × Call)
asked calls = map (λ call. (call.session, call.call)) calls

-- what the machine replies after the calls before
abbrev pub right_reply : StartView → List Captured → Captured → Reply
right_reply start before call = reply_in (run (opening start) (asked before)) call.session call.call

abbrev pub bad_reply : StartView → List Captured → Captured → Option Refusal
bad_reply start before call = unless (same_reply call.reply (right_reply start before call)) (OtherReply call.stamp call.reply (right_reply start before call))
