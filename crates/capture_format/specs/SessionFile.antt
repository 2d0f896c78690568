-- The file of a session: its lines as a form, and the bytes of its calls.
use Rattle.std.specs.Prelude.{◌≡◌, ℕ, zero, suc, ◌+◌, ◌<◌, ◌≤◌, ◌^◌, Bool, true, false, List, [], ◌∷◌, ◌++◌, length, codes}
use Rattle.std.specs.List.{AllByRecursion}
use Rattle.std.specs.Fmt.{decimal}
use Rattle.desk_values.specs.declared.capture.Captured.{Captured}
use Rattle.desk_values.specs.Good.{IsCall, IsGoodReply, MayTell}
use Rattle.desk_values.specs.Text.{call_text, reply_text}
use Rattle.file_lines.specs.File.{IsBadAt}
use Rattle.file_lines.specs.Form.{Form, Comes, text_of}
use Rattle.capture_format.specs.declared.session_line.CallLine.{CallLine}
use Rattle.desk_values.specs.Limits.{last_moment}
use Rattle.capture_format.specs.declared.session_line.SessionLine.{SessionLine}
use Rattle.capture_format.specs.declared.session_line.SessionLine.TheVariants.{Head, Call, End}
use Rattle.capture_format.specs.declared.session.Stage.{Stage}
use Rattle.capture_format.specs.declared.session.Stage.TheVariants.{Empty, Headed, Ended}
use Rattle.capture_format.specs.SessionView.{SessionView}

-- a commit's number, or `-`
abbrev pub number_text : ℕ → List ℕ
number_text zero = 45 ∷ []
number_text (suc n) = decimal (suc n)

-- stamp, began, ended, seen, number, what was asked, `>`, what was answered
abbrev pub call_line_text : CallLine → List ℕ
call_line_text line = decimal line.stamp ++ 32 ∷ (decimal line.began ++ 32 ∷ (decimal line.ended ++ 32 ∷ (decimal line.seen ++ 32 ∷ (number_text line.number ++ 32 ∷ (call_text line.call ++ 32 ∷ 62 ∷ 32 ∷ reply_text line.reply)))))

-- the text of a line, without its line feed
abbrev pub session_line_text : SessionLine → List ℕ
session_line_text (Head version session) = codes "session " ++ (decimal version ++ 32 ∷ decimal session)
session_line_text (Call line) = call_line_text line
session_line_text End = codes "end"

-- the parts of a call's line are within their limits
pub record IsCallLine (line : CallLine) : Type 0 where
  pub stamp : line.stamp < 2 ^ 32
  pub began : line.began ≤ last_moment
  pub ended : line.ended ≤ last_moment
  pub seen : line.seen < 2 ^ 64
  pub number : line.number < 2 ^ 64
  pub call : IsCall line.call
  pub reply : IsGoodReply line.reply

-- a line that has a text
abbrev pub IsSessionLine : SessionLine → Type 0
IsSessionLine (Head version session) = (version < 2 ^ 32) × (session < 2 ^ 32)
IsSessionLine (Call line) = IsCallLine line
IsSessionLine End = Unit {0}

-- the call of a line, in this session and at this place
abbrev pub captured_of : ℕ → ℕ → CallLine → Captured
captured_of session place line = record { session = session; place = place; stamp = line.stamp; seen = line.seen; number = line.number; began = line.began; ended = line.ended; call = line.call; reply = line.reply }

-- the line has what it needs: the version and the session's number, or a stamp over the one before and a reply that a server of
-- the version may give; and nothing follows the end
abbrev pub MayCome : SessionView → SessionLine → Type 0
MayCome s (Head version number) = (s.stage ≡ Empty) × (version ≡ s.version) × (number ≡ s.session)
MayCome s (Call line) = (s.stage ≡ Headed) × (s.least ≤ line.stamp) × MayTell s.version line.reply
MayCome s End = s.stage ≡ Headed

-- what a line adds
abbrev pub with_line : SessionView → SessionLine → SessionView
with_line s (Head version number) = record s { stage = Headed }
with_line s (Call line) = record s { least = line.stamp + 1; calls = s.calls ++ captured_of s.session (length s.calls) line ∷ [] }
with_line s End = record s { stage = Ended }

-- before the first line
abbrev pub new_view : ℕ → ℕ → SessionView
new_view session version = record { session = session; version = version; stage = Empty; least = 0; calls = [] }

abbrev pub is_last : Stage → Bool
is_last Ended = true
is_last other = false

abbrev pub is_ended : SessionView → Bool
is_ended s = is_last s.stage

abbrev pub session_form : Form SessionView SessionLine
session_form = record { Fits = IsSessionLine; text = session_line_text; May = MayCome; added = with_line }

-- the line of this number is the first that is not whole or may not come
abbrev pub IsBadSession : ℕ → ℕ → List ℕ → ℕ → Type 0
IsBadSession session version bytes n = IsBadAt (Comes session_form) is_ended (new_view session version) 1 bytes n

-- what the line of a captured call says
abbrev pub line_of : Captured → CallLine
line_of call = record { stamp = call.stamp; began = call.began; ended = call.ended; seen = call.seen; number = call.number; call = call.call; reply = call.reply }

-- the lines of calls, and the end
abbrev pub last_lines : List Captured → List SessionLine
last_lines [] = End ∷ []
last_lines (call ∷ calls) = Call (line_of call) ∷ last_lines calls

-- the bytes of the file of a session, of this version
abbrev pub session_text : ℕ → ℕ → List Captured → List ℕ
session_text session version calls = text_of session_form (Head version session ∷ last_lines calls)

-- a call of this session at this place, with at least this stamp
pub record IsCallAt (session place least : ℕ) (call : Captured) : Type 0 where
  pub session_is : call.session ≡ session
  pub place_is : call.place ≡ place
  pub stamp : least ≤ call.stamp
  pub began : call.began ≤ last_moment
  pub ended : call.ended ≤ last_moment
  pub reply : IsGoodReply call.reply

-- calls of this session at places from this one on, with rising stamps from this one on
abbrev pub AreCallsFrom : ℕ → ℕ → ℕ → List Captured → Type 0
AreCallsFrom session place least [] = Unit {0}
AreCallsFrom session place least (call ∷ calls) = IsCallAt session place least call × AreCallsFrom session (place + 1) (call.stamp + 1) calls

-- the calls of a session
abbrev pub AreCallsOf : ℕ → List Captured → Type 0
AreCallsOf session calls = AreCallsFrom session 0 0 calls

-- no reply is one that a server of the version does not give
abbrev pub MayTellAll : ℕ → List Captured → Type 0
MayTellAll version calls = AllByRecursion (λ call. MayTell version call.reply) calls

-- the bytes are the file of this session and version with these calls, whose parts are within the limits of their types
pub record IsSessionFile (session version : ℕ) (bytes : List ℕ) (calls : List Captured) : Type 0 where
  pub calls_are : AreCallsOf session calls
  pub told : MayTellAll version calls
  pub fit : AllByRecursion (λ call. IsCallLine (line_of call)) calls
  pub text : bytes ≡ session_text session version calls
