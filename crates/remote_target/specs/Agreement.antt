-- When the desk and the lines agree on what was sent and what came back, and what they differ in first.
use Rattle.std.specs.Prelude.{◌≡◌, ◌⊎◌, ℕ, ◌+◌, ◌<◌, Bool, true, List, [], ◌∷◌, length, slice_get, Option, None, Some, Result, Ok, Err, ⊤}
use Rattle.std.specs.List.{AllByRecursion}
use Rattle.desk_values.specs.declared.call.Call.{Call}
use Rattle.desk_values.specs.declared.call.Reply.{Reply}
use Rattle.remote_link.specs.declared.heard.Heard.{Heard}
use Rattle.remote_link.specs.Heard.{heard}
use Rattle.remote_desk.specs.Desk.{RemoteView}
use Rattle.remote_desk.specs.Said.{said_in}
use Rattle.remote_target.specs.declared.line.Line.{Line}
use Rattle.remote_target.specs.declared.remote_err.RemoteErr.{RemoteErr}
use Rattle.remote_target.specs.declared.remote_err.RemoteErr.TheVariants.{Link, OtherJob, Mismatch, Memory}

-- a session, and what was heard on its line
abbrev pub OfLine : Type 0
OfLine = ℕ × List Heard

abbrev pub heard_on : {L : Type 0} → Line L → OfLine
heard_on line = (line.session, line.spoken.heard)

-- ---- one session

-- at the last place of a line its reply is there, and the desk lacks it
pub record LacksLast (kept answered : List Heard) (i : ℕ) : Type 0 where
  pub call : Call
  pub reply : Reply
  pub kept_is : slice_get kept i ≡ Some (heard call None)
  pub answered_is : slice_get answered i ≡ Some (heard call (Some reply))
  pub last : i + 1 ≡ length answered

-- at this place the desk keeps what the line heard; a stopped one may lack the last reply
abbrev pub AgreesAt : Bool → List Heard → List Heard → ℕ → Type 0
AgreesAt stopped kept answered i = (slice_get kept i ≡ slice_get answered i) ⊎ ((stopped ≡ true) × LacksLast kept answered i)

abbrev pub AgreesIn : Bool → List Heard → List Heard → Type 0
AgreesIn stopped kept answered = (i : ℕ) → AgreesAt stopped kept answered i

-- the first place where they differ, with what stands there on both sides
pub record DiffersAt (stopped : Bool) (kept answered : List Heard) (place : ℕ) (one other : Option Heard) : Type 0 where
  pub first : (i : ℕ) → i < place → AgreesAt stopped kept answered i
  pub here : AgreesAt stopped kept answered place → ⊥
  pub kept_is : one ≡ slice_get kept place
  pub answered_is : other ≡ slice_get answered place

-- ---- all of them

abbrev pub kept_of : RemoteView → ℕ → List Heard
kept_of desk session = said_in desk.job.calls desk.events session

abbrev pub AgreesOn : RemoteView → OfLine → Type 0
AgreesOn desk line = AgreesIn desk.stopped (kept_of desk line.0) line.1

-- the first line that differs, of these
abbrev pub DiffersOn : RemoteView → List OfLine → ℕ → ℕ → Option Heard → Option Heard → Type 0
DiffersOn desk [] session place one other = ⊥
DiffersOn desk (line ∷ lines) session place one other =
    ((session ≡ line.0) × DiffersAt desk.stopped (kept_of desk line.0) line.1 place one other)
    ⊎ (AgreesOn desk line × DiffersOn desk lines session place one other)

-- what the comparison of a desk with its lines answers
abbrev pub Compares : RemoteView → List OfLine → Result (Unit {0}) RemoteErr → Type 0
Compares desk lines (Ok done) = AllByRecursion (AgreesOn desk) lines
Compares desk lines (Err (Mismatch session place one other)) = DiffersOn desk lines session place one other
Compares desk lines (Err Memory) = ⊤
Compares desk lines (Err Link) = ⊥
Compares desk lines (Err (OtherJob job)) = ⊥
