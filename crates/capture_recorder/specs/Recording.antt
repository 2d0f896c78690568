-- What a recorder holds, which calls it turns away, and what each other call adds.
use Rattle.std.specs.Prelude.{◌≡◌, ℕ, ◌+◌, ◌≤◌, Bool, not, nat_le, if◌then◌else◌, min, max, List, [], ◌∷◌, ◌++◌, length, take, count_by, Option, None, Some, is_some, Result, Ok, Err}
use Rattle.std.specs.List.{AllByRecursion, list_any}
use Rattle.desk_values.specs.declared.call.Call.{Call}
use Rattle.desk_values.specs.declared.call.Call.TheVariants.{Disconnect}
use Rattle.desk_values.specs.declared.call.Reply.{Reply}
use Rattle.desk_values.specs.declared.capture.Captured.{Captured}
use Rattle.desk_schema.specs.Start.{StartView}
use Rattle.desk_values.specs.Limits.{last_moment}
use Rattle.replay_history.specs.Capture.{IsLegalCapture, IsRun, binds_of, commits_before, number_behind, session_calls_before}
use Rattle.captured_calls.specs.Moments.{ended_in}
use Rattle.captured_calls.specs.Stamped.{HasText}
use Rattle.server_words.specs.declared.session.Session.{Session}
use Rattle.server_words.specs.State.{State, is_connected, is_given, opening}
use Rattle.server_words.specs.Step.{Gives, reply_in, step}
use Rattle.capture_recorder.specs.declared.refusal.CallErr.{CallErr}
use Rattle.capture_recorder.specs.declared.refusal.CallErr.TheVariants.{Stranger, Full, Memory}
use Rattle.capture_recorder.specs.Limits.{accepted_limit}
use Rattle.replay_history.specs.Limits.{call_limit}

pub record Recording : Type 0 where
  pub start : StartView
  -- the calls by stamp
  pub calls : List Captured
  -- the state of the server after them
  pub state : State

-- nothing is recorded yet
abbrev pub opened : StartView → Recording
opened start = record { start = start; calls = []; state = opening start }

-- ---- moments

-- at most the greatest moment of a capture
abbrev pub cut : ℕ → ℕ
cut moment = min moment last_moment

-- a call is kept as beginning when it did, but not before the end of its session's last call
abbrev pub kept_began : List Captured → ℕ → ℕ → ℕ
kept_began calls session began = cut (max began (ended_in session calls))

-- and as ending when it did, but not before that beginning
abbrev pub kept_ended : ℕ → ℕ → ℕ
kept_ended began ended = cut (max ended began)

-- ---- a call that is recorded

-- the call with its place, its stamp and the server's reply; it has the next number where the reply is that of a numbered commit
abbrev pub captured : Recording → ℕ → Call → ℕ → ℕ → Captured
captured r session call began ended =
    let stamp = length r.calls in
    let seen = commits_before r.calls stamp in
    let reply = reply_in r.state session call in
    let start = kept_began r.calls session began in
    record { session = session; place = session_calls_before r.calls session stamp; stamp = stamp; seen = seen; number = number_behind (take stamp r.calls) reply.outcome; began = start; ended = kept_ended start ended; call = call; reply = reply }

-- a session's call that began and ended at these moments is recorded: one call more, and one step of the server
abbrev pub recorded : Recording → ℕ → Call → ℕ → ℕ → Recording
recorded r session call began ended = record r { calls = r.calls ++ captured r session call began ended ∷ []; state = step r.state session call }

-- ---- calls that are turned away

-- some bind is an id that was never given
abbrev pub is_stranger : State → Call → Bool
is_stranger state call = list_any (λ bind. not (is_given state bind)) (binds_of call)

-- why a call is turned away, if it is: the recorder is full; or else the call knows an id that it can't know
abbrev pub turned_away : Recording → Call → Option CallErr
turned_away r call = if nat_le accepted_limit (length r.calls) then Some Full else if is_stranger r.state call then Some Stranger else None

-- it is answered just where it is not turned away; memory is wanted only then
abbrev pub Turns : {T : Type 0} → Result T CallErr → Option CallErr → Type 0
Turns (Ok _) turned = turned ≡ None
Turns (Err Memory) turned = turned ≡ None
Turns (Err refusal) turned = turned ≡ Some refusal

-- ---- the end of a session

-- a session that is connected is disconnected at this moment; for another nothing is recorded
abbrev pub closed : Recording → ℕ → ℕ → Recording
closed r session at = if is_connected r.state session then recorded r session Disconnect at at else r

abbrev pub closing_reply : Recording → ℕ → Option Reply
closing_reply r session = if is_connected r.state session then Some (reply_in r.state session Disconnect) else None

-- ---- what always holds

abbrev pub connected_count : State → ℕ
connected_count state = count_by (λ (session : Session). is_some session.rights) state.sessions

pub record IsRecording (r : Recording) : Type 0 where
  -- the calls are a legal capture from the start
  pub legal : IsLegalCapture r.start.rows Gives (opening r.start) r.calls
  -- after which the server is in this state
  pub reached : IsRun Gives (opening r.start) r.calls r.state
  -- each session that is connected can still be disconnected
  pub room : length r.calls + connected_count r.state ≤ call_limit
  pub texts : AllByRecursion HasText r.calls
