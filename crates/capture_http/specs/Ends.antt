-- What stands when a connection has ended.
use Rattle.std.specs.Prelude.{◌≡◌, ◌⊎◌, ℕ, ◌+◌, ◌<◌, ◌≤◌, true, List, [], ◌∷◌, ◌++◌, length, map, take, Option, None, Some, IsSomeAnd, IfSome}
use Rattle.capture_http.specs.declared.conn_end.ConnEnd.{ConnEnd}
use Rattle.capture_http.specs.declared.conn_end.ConnEnd.TheVariants as ends
use Rattle.desk_files.specs.Outside.{Account, Told as Where, Appends, HasRisen}
use Rattle.capture_recorder.specs.Doors.{IsClosing}
use Rattle.capture_recorder.specs.declared.door.Said.{Said}
use Rattle.capture_recorder.specs.declared.door.Turned.{Turned}
use Rattle.http_requests.specs.Requests.{IsUnfinished}
use Rattle.capture_http.specs.Answers.{shortage}
use Rattle.capture_http.specs.Conversation.{Turn, IsTurn, AreOpen, own_of, said_of, turned_of, answers, answer_text, entry_of}
use Rattle.capture_http.specs.Limits.{byte_limit, request_limit}

-- ---- what is seen

-- the input, the output and the door at a moment: bytes where they are told, counts of faults, and the door's two lists
pub record Ends : Type 0 where
  pub input : Option (List ℕ)
  pub input_faults : ℕ
  pub output : Option (List ℕ)
  pub output_faults : ℕ
  pub said : List Said
  pub turned : List Turned

abbrev pub ends_of : Option (List ℕ) → ℕ → Option (List ℕ) → ℕ → List Said → List Turned → Ends
ends_of input input_faults output output_faults said turned = record { input = input; input_faults = input_faults; output = output; output_faults = output_faults; said = said; turned = turned }

-- the same by what the two objects give account of
abbrev pub ends_told : Account (List ℕ) → Account (List ℕ) → List Said → List Turned → Ends
ends_told input output said turned = ends_of input.content input.faults output.content output.faults said turned

-- ---- what was read and noted

-- turns after each of which the connection went on, then at most one more, and what was read behind them
pub record Course : Type 0 where
  pub earlier : List Turn
  pub last : Option Turn
  pub rest : List ℕ

abbrev pub listed : Option Turn → List Turn
listed None = []
listed (Some t) = t ∷ []

abbrev pub turns_of : Course → List Turn
turns_of course = course.earlier ++ listed course.last

-- just these bytes were read, and the door noted just the calls of these turns
pub record Noted (turns : List Turn) (rest : List ℕ) (before after : Ends) : Type 0 where
  pub input : Where before.input (λ all. IsSomeAnd after.input (λ left. all ≡ own_of turns ++ (rest ++ left)))
  pub few : length (own_of turns) + length rest ≤ byte_limit
  pub said : after.said ≡ before.said ++ said_of turns
  pub turned : (more : List Turned) × (after.turned ≡ before.turned ++ more) × (map entry_of more ≡ turned_of turns)

pub record Follows (course : Course) (before after : Ends) : Type 0 where
  pub goes_on : AreOpen course.earlier
  pub fewer : length course.earlier < request_limit
  pub is_turn : IfSome course.last IsTurn
  pub noted : Noted (turns_of course) course.rest before after

-- ---- what was written, and which device failed

abbrev pub InputStands : Ends → Ends → Type 0
InputStands before after = after.input_faults ≡ before.input_faults

abbrev pub InputFailed : Ends → Ends → Type 0
InputFailed before after = HasRisen before.input_faults after.input_faults × (before.input_faults ≤ after.input_faults)

-- just this text was written
pub record Wrote (text : List ℕ) (before after : Ends) : Type 0 where
  pub output : Appends text before.output after.output
  pub stands : after.output_faults ≡ before.output_faults

-- a text was written, and then the output failed at this one: no more than the first few bytes of it came
pub record WrotePart (text part : List ℕ) (before after : Ends) : Type 0 where
  pub output : Where before.output (λ old. IsSomeAnd after.output (λ new. (n : ℕ) × (new ≡ (old ++ text) ++ take n part)))
  pub failed : HasRisen before.output_faults after.output_faults × (before.output_faults ≤ after.output_faults)

-- ---- the ends

-- the last request closed the connection
pub record IsClosed (session : ℕ) (course : Course) (before after : Ends) : Type 0 where
  pub closes : IsSomeAnd course.last (λ t. t.request.decision.closes ≡ true)
  pub fewer : length course.earlier + 1 < request_limit
  pub wrote : Wrote (answers session (turns_of course)) before after
  pub input : InputStands before after

-- the input ended before a whole request
pub record IsOver (session : ℕ) (course : Course) (before after : Ends) : Type 0 where
  pub no_more : course.last ≡ None
  pub unfinished : IsUnfinished course.rest
  pub none_left : Where before.input (λ all. after.input ≡ Some [])
  pub wrote : Wrote (answers session course.earlier) before after
  pub input : InputStands before after

-- as many requests were answered as are answered on a connection, and none before the last closed it
pub record IsSpent (session : ℕ) (course : Course) (before after : Ends) : Type 0 where
  pub last : IsSomeAnd course.last IsTurn
  pub all : length course.earlier + 1 ≡ request_limit
  pub wrote : Wrote (answers session (turns_of course)) before after
  pub input : InputStands before after

-- the input failed before a whole request
pub record IsUnread (session : ℕ) (course : Course) (before after : Ends) : Type 0 where
  pub no_more : course.last ≡ None
  pub unfinished : IsUnfinished course.rest
  pub wrote : Wrote (answers session course.earlier) before after
  pub input : InputFailed before after

-- the output failed at the answer to the last request
pub record IsUnwritten (session : ℕ) (course : Course) (before after : Ends) : Type 0 where
  pub wrote : IsSomeAnd course.last (λ t. WrotePart (answers session course.earlier) (answer_text session (length (said_of course.earlier)) t.request.decision t.answer) before after)
  pub input : InputStands before after

-- memory was short: in place of a further answer a 503 was written, or the output failed at it. The last turn is that of the
-- request whose call the door had noted by then, if it had
pub record IsShort (session : ℕ) (course : Course) (before after : Ends) : Type 0 where
  pub wrote : Wrote (answers session course.earlier ++ shortage) before after ⊎ WrotePart (answers session course.earlier) shortage before after
  pub input : InputStands before after

abbrev pub IsEnd : ConnEnd → ℕ → Course → Ends → Ends → Type 0
IsEnd ends.Ended session course before after = IsClosed session course before after ⊎ IsOver session course before after
IsEnd ends.Spent session course before after = IsSpent session course before after
IsEnd ends.SourceFault session course before after = IsUnread session course before after
IsEnd ends.SinkFault session course before after = IsUnwritten session course before after
IsEnd ends.Memory session course before after = IsShort session course before after

-- what stands at an end, but for the closing of the session
pub record Finishes (end : ConnEnd) (session : ℕ) (before after : Ends) : Type 0 where
  pub course : Course
  pub follows : Follows course before after
  pub is_end : IsEnd end session course before after

-- the session was closed behind what was said, which added one disconnect or nothing; or memory was short for it
abbrev pub Closes : ConnEnd → ConnEnd → List Said → List Said → Type 0
Closes found end said said' =
    ((end ≡ found) × (more : List Said) × IsClosing more × (said' ≡ said ++ more)) ⊎ ((end ≡ ends.Memory) × (said' ≡ said))

-- what stands where a connection ended and its session was closed at last
pub record Serves (end : ConnEnd) (session : ℕ) (before after : Ends) : Type 0 where
  pub found : ConnEnd
  pub said : List Said
  pub finishes : Finishes found session before (record after { said = said })
  pub closes : Closes found end said after.said
