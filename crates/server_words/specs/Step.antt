-- One step of the server, and a run of several.
use Rattle.std.specs.Prelude.{◌≡◌, ℕ, ◌+◌, Bool, true, false, List, [], ◌∷◌, ◌++◌, length, slice_set, Option, None, Some}
use Rattle.desk_values.specs.declared.value.Image.{Image}
use Rattle.desk_values.specs.declared.call.Call.{Call}
use Rattle.desk_values.specs.declared.call.Outcome.{Outcome}
use Rattle.desk_values.specs.declared.call.Outcome.TheVariants.{Committed}
use Rattle.desk_values.specs.declared.call.Reply.{Reply}
use Rattle.server_words.specs.declared.session.Session.{Session}
use Rattle.server_words.specs.State.{State, session_at}
use Rattle.server_words.specs.View.{View, view_of}
use Rattle.server_words.specs.Request.{Request, request_of, table_in}
use Rattle.server_words.specs.Draws.{moved}
use Rattle.server_words.specs.Answer.{Answer, answer}

-- what a step commits
abbrev pub committed_in : Outcome → List Image
committed_in (Committed images) = images
committed_in other = []

-- only changes become a commit
abbrev pub with_commit : List (List Image) → List Image → List (List Image)
with_commit commits [] = commits
with_commit commits (image ∷ images) = commits ++ (image ∷ images) ∷ []

abbrev pub after_made : Option ℕ → ℕ → ℕ
after_made (Some made) row = row + 1
after_made None row = row

-- a transaction that has just begun to read reads at the last commit
abbrev pub snapshot_after : Bool → Option ℕ → ℕ → Option ℕ
snapshot_after false before commits = None
snapshot_after true (Some n) commits = Some n
snapshot_after true None commits = Some commits

abbrev pub session_after : Session → ℕ → Answer → Session
session_after before commits a = record { rights = a.rights; snapshot = snapshot_after a.reads_only before.snapshot commits; own = a.own; savepoints = a.savepoints }

-- the state after a session got this answer
abbrev pub after : State → ℕ → Answer → State
after state session a = record state {
  commits = with_commit state.commits (committed_in a.reply.outcome);
  next_row = after_made a.reply.made state.next_row;
  next_values = moved a.reply.draws 0 state.next_values;
  sessions = slice_set state.sessions session (session_after (session_at state session) (length state.commits) a);
}

-- what a session's request can depend on, and its answer
abbrev pub view_for : State → ℕ → Request → View
view_for state session request = view_of state session (table_in request)

abbrev pub answer_to : State → ℕ → Request → Answer
answer_to state session request = answer state.start.schema (view_for state session request) state.next_values state.next_row request

abbrev pub answer_in : State → ℕ → Call → Answer
answer_in state session call = answer_to state session (request_of state.start.schema call)

abbrev pub reply_in : State → ℕ → Call → Reply
reply_in state session call = (answer_in state session call).reply

abbrev pub step : State → ℕ → Call → State
step state session call = after state session (answer_in state session call)

-- in the first state the session's call gets this reply, and leaves the second
abbrev pub Gives : State → ℕ → Call → Reply → State → Type 0
Gives state session call reply next = (reply ≡ reply_in state session call) × (next ≡ step state session call)

-- the state after these calls of these sessions, and their replies
abbrev pub run : State → List (ℕ × Call) → State
run state [] = state
run state (call ∷ calls) = run (step state call.0 call.1) calls

abbrev pub replies_of : State → List (ℕ × Call) → List Reply
replies_of state [] = []
replies_of state (call ∷ calls) = reply_in state call.0 call.1 ∷ replies_of (step state call.0 call.1) calls
