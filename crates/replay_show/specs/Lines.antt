-- The lines that are shown: of one call, and of all that differ. A line of a call is a word, filled up to twelve bytes, and what it says.
use Rattle.std.specs.Prelude.{ℕ, ◌+◌, ◌==◌, nat_eq, ◌&&◌, if◌then◌else◌, Bool, List, [], ◌∷◌, ◌++◌, codes, length, slice_get, Option, None, Some}
use Rattle.std.specs.Fmt.{decimal}
use Rattle.std.specs.List.{find, flat_map, list_any}
use Rattle.desk_values.specs.declared.value.Value.{Value}
use Rattle.desk_values.specs.declared.call.Call.{Call}
use Rattle.desk_values.specs.declared.call.Reply.{Reply}
use Rattle.desk_values.specs.declared.capture.Captured.{Captured}
use Rattle.desk_values.specs.declared.capture.Event.{Event}
use Rattle.desk_values.specs.declared.capture.Event.TheVariants.{Start, Answer}
use Rattle.desk_schema.specs.Schema.{SchemaView}
use Rattle.replay_history.specs.Capture.{binds_of}
use Rattle.replay_history.specs.Class.{class_word}
use Rattle.replay_history.specs.Mode.{mode_word}
use Rattle.replay_history.specs.Texts.{line}
use Rattle.replay_history.specs.declared.mode.Mode.{Mode}
use Rattle.replay_history.specs.declared.report.Class.{Class}
use Rattle.replay_history.specs.declared.report.Class.TheVariants.{Same, NewError, GoneError, MutatedError, RowsModified, RowsFetched, RowContents, Images, Shape}
use Rattle.replay_history.specs.declared.report.Line.{Line}
use Rattle.object_depends.specs.declared.fact.Fact.{Fact}
use Rattle.object_depends.specs.Required.{last_of, required}
use Rattle.divergence_cause.specs.Cause.{cause_word}
use Rattle.divergence_cause.specs.declared.cause.Cause.{Cause}
use Rattle.divergence_cause.specs.declared.cause.Cause.TheVariants.{Timing, Upgrade}
use Rattle.divergence_cause.specs.declared.cause.CauseLine.{CauseLine}
use Rattle.replay_show.specs.Ids.{id_lines}
use Rattle.replay_show.specs.Shown.{ShownView}
use Rattle.replay_show.specs.Transactions.{is_end, transaction_of}
use Rattle.replay_show.specs.Values.{call_shown, counted, reply_shown, value_shown}

-- ---- the call itself

unfoldable pub bind_line : SchemaView → ℕ → Value → List ℕ
bind_line schema n value = line (codes "bind        :" ++ (decimal n ++ (codes " = " ++ value_shown schema value)))

-- the values of its binds, by their numbers from this one on
abbrev pub bind_lines : SchemaView → ℕ → List Value → List ℕ
bind_lines schema n [] = []
bind_lines schema n (value ∷ values) = bind_line schema n value ++ bind_lines schema (n + 1) values

unfoldable pub stamp_line : Captured → List ℕ
stamp_line call = line (codes "call        " ++ decimal call.stamp)

unfoldable pub session_line : Captured → List ℕ
session_line call = line (codes "session     " ++ (decimal call.session ++ (codes ", its call " ++ decimal call.place)))

unfoldable pub text_line : Call → List ℕ
text_line call = line (codes "text        " ++ call_shown call)

unfoldable pub asked_lines : SchemaView → Captured → List ℕ
asked_lines schema call = stamp_line call ++ (session_line call ++ (text_line call.call ++ bind_lines schema 1 (binds_of call.call)))

-- ---- how it differs

abbrev pub class_sentence : Class → List ℕ
class_sentence Same = codes "as captured"
class_sentence NewError = codes "it is refused, and was not"
class_sentence GoneError = codes "it was refused, and is not"
class_sentence MutatedError = codes "it was refused for one cause, and is for another"
class_sentence RowsModified = codes "another number of rows was written"
class_sentence RowsFetched = codes "another number of rows was read"
class_sentence RowContents = codes "as many rows were read, but others"
class_sentence Images = codes "the commit wrote other rows or values"
class_sentence Shape = codes "the reply is of another kind"

abbrev pub class_or_same : Option Line → Class
class_or_same None = Same
class_or_same (Some l) = l.class

-- the class of the call with this stamp, by the report
unfoldable pub class_at : List Line → ℕ → Class
class_at lines k = class_or_same (find (λ l. nat_eq l.stamp k) lines)

abbrev pub cause_sentence : Cause → List ℕ
cause_sentence Timing = codes "its session met something else, or another call was sent"
cause_sentence Upgrade = codes "it met what it met in the capture, and was sent the same: the server answers otherwise"

unfoldable pub cause_line : Option CauseLine → List ℕ
cause_line None = []
cause_line (Some l) = line (codes "cause       " ++ (cause_word l.cause ++ (codes ": " ++ cause_sentence l.cause)))

unfoldable pub cause_lines : Option (List CauseLine) → ℕ → List ℕ
cause_lines None k = []
cause_lines (Some causes) k = cause_line (find (λ l. nat_eq l.stamp k) causes)

unfoldable pub sure_line : Bool → List ℕ
sure_line sure = if sure then line (codes "sure        a read that is sure to answer as captured") else []

unfoldable pub sure_lines : Option (List ℕ) → ℕ → List ℕ
sure_lines None k = []
sure_lines (Some reads) k = sure_line (list_any (λ stamp. nat_eq stamp k) reads)

unfoldable pub class_line : Class → List ℕ
class_line class = line (codes "class       " ++ (class_word class ++ (codes ": " ++ class_sentence class)))

unfoldable pub class_lines : ShownView → ℕ → List ℕ
class_lines view k =
    class_line (class_at view.run.report.lines k)
    ++ (cause_lines view.run.causes k ++ sure_lines view.run.reads k)

-- ---- what it was answered, and when

-- the place and the reply of the first answer to a call, behind so many events
abbrev pub answer_from : ℕ → ℕ → List Event → Option (ℕ × Reply)
answer_from k n [] = None
answer_from k n (Start stamp pause ∷ events) = answer_from k (n + 1) events
answer_from k n (Answer stamp reply ∷ events) = if nat_eq stamp k then Some (n, reply) else answer_from k (n + 1) events

unfoldable pub captured_line : SchemaView → Reply → List ℕ
captured_line schema reply = line (codes "captured    " ++ reply_shown schema reply)

unfoldable pub replayed_line : SchemaView → Option (ℕ × Reply) → List ℕ
replayed_line schema None = []
replayed_line schema (Some answer) = line (codes "replayed    " ++ reply_shown schema answer.1)

unfoldable pub reply_lines : SchemaView → Captured → Option (ℕ × Reply) → List ℕ
reply_lines schema call answer = captured_line schema call.reply ++ replayed_line schema answer

-- the call with this number among the commits
abbrev pub commit_named : Option Captured → List ℕ
commit_named None = []
commit_named (Some call) = decimal call.stamp

abbrev pub commit_at : List Captured → ℕ → Option Captured
commit_at calls n = find (λ call. nat_eq call.number n) calls

unfoldable pub seen_line : List Captured → ℕ → List ℕ
seen_line calls n = line (codes "saw         " ++ (counted n (codes " commit, the last is call ") (codes " commits, the last is call ") ++ commit_named (commit_at calls n)))

unfoldable pub saw_line : List Captured → ℕ → List ℕ
saw_line calls n = if n == 0 then line (codes "saw         no commit") else seen_line calls n

unfoldable pub commit_line : ℕ → List ℕ
commit_line n = if n == 0 then [] else line (codes "commit      " ++ decimal n)

unfoldable pub times_line : Captured → List ℕ
times_line call = line (codes "began       " ++ (decimal call.began ++ (codes " us, ended " ++ (decimal call.ended ++ codes " us"))))

unfoldable pub moment_lines : List Captured → Captured → List ℕ
moment_lines calls call = times_line call ++ (saw_line calls call.seen ++ commit_line call.number)

-- the call that was answered last before
abbrev pub behind_shown : Option ℕ → List ℕ
behind_shown None = codes "before any answer"
behind_shown (Some stamp) = codes "right after the answer to call " ++ decimal stamp

abbrev pub start_line : ℕ → ℕ → Option ℕ → List ℕ
start_line n pause last = line (codes "started     event " ++ (decimal n ++ (codes ", after a pause of " ++ (decimal pause ++ (codes " us, " ++ behind_shown last)))))

-- the first start of a call, behind so many events, of which this was the last answer
abbrev pub started_from : ℕ → ℕ → Option ℕ → List Event → List ℕ
started_from k n last [] = []
started_from k n last (Start stamp pause ∷ events) = if nat_eq stamp k then start_line n pause last else started_from k (n + 1) last events
started_from k n last (Answer stamp reply ∷ events) = started_from k (n + 1) (Some stamp) events

unfoldable pub answered_line : Option (ℕ × Reply) → List ℕ
answered_line None = []
answered_line (Some answer) = line (codes "answered    event " ++ decimal answer.0)

-- ---- what it waits for

abbrev pub is_before : Captured → Captured → Bool
is_before call other = nat_eq other.session call.session && nat_eq (other.place + 1) call.place

unfoldable pub before_shown : Option Captured → List ℕ
before_shown None = codes "nothing"
before_shown (Some call) = codes "call " ++ decimal call.stamp

-- the call of its session before it
unfoldable pub follows_line : List Captured → Captured → List ℕ
follows_line calls call = line (codes "follows     " ++ before_shown (find (is_before call) calls))

abbrev pub waits_shown : ℕ → Option ℕ → List ℕ
waits_shown n None = codes "nothing more"
waits_shown n (Some last) = counted n (codes " call, the last is call ") (codes " calls, the last is call ") ++ decimal last

-- what its mode has it wait for beside that
unfoldable pub waits_line : Mode → List Fact → ℕ → List ℕ
waits_line mode facts k = line (codes "waits       " ++ (mode_word mode ++ (codes ": " ++ waits_shown (length (required mode facts k)) (last_of (required mode facts k)))))

-- ---- its transaction

unfoldable pub step_front : Captured → List ℕ
step_front call = codes "step        " ++ (decimal call.stamp ++ codes " ")

unfoldable pub step_shown : Captured → Class → List ℕ
step_shown call class = line (step_front call ++ (class_word class ++ (codes " " ++ call_shown call.call)))

unfoldable pub step_line : List Line → Captured → List ℕ
step_line lines call = step_shown call (class_at lines call.stamp)

-- the last of a call and more
abbrev pub last_call : Captured → List Captured → Captured
last_call call [] = call
last_call call (next ∷ calls) = last_call next calls

unfoldable pub ended_shown : Captured → List ℕ
ended_shown call = if is_end call then [] else codes ", not ended"

unfoldable pub extent_front : Captured → Captured → List ℕ
extent_front first last = codes "transaction calls " ++ (decimal first.stamp ++ (codes " to " ++ decimal last.stamp))

-- so many calls from the first to the last
unfoldable pub extent_line : Captured → Captured → ℕ → List ℕ
extent_line first last n =
    line (extent_front first last ++ (codes ", " ++ (counted n (codes " call") (codes " calls") ++ ended_shown last)))

unfoldable pub transaction_line : Captured → List Captured → List ℕ
transaction_line first calls = extent_line first (last_call first calls) (length calls + 1)

unfoldable pub transaction_lines : List Line → List Captured → List ℕ
transaction_lines lines [] = []
transaction_lines lines (first ∷ calls) = transaction_line first calls ++ flat_map (step_line lines) (first ∷ calls)

-- ---- one call

-- what it asked, how it differs, what it was answered, and when it was captured
unfoldable pub said_lines : ShownView → Captured → Option (ℕ × Reply) → List ℕ
said_lines view call answer =
    asked_lines view.start.schema call
    ++ (class_lines view call.stamp
    ++ (reply_lines view.start.schema call answer
    ++ moment_lines view.calls call))

-- when it was replayed, and among which calls
unfoldable pub met_lines : ShownView → Captured → Option (ℕ × Reply) → List ℕ
met_lines view call answer =
    started_from call.stamp 0 None view.run.history
    ++ (answered_line answer
    ++ (follows_line view.calls call
    ++ (waits_line view.run.mode view.facts call.stamp
    ++ (transaction_lines view.run.report.lines (transaction_of view.calls call.session call.stamp)
    ++ id_lines view call))))

unfoldable pub call_lines : ShownView → Captured → List ℕ
call_lines view call =
    said_lines view call (answer_from call.stamp 0 view.run.history) ++ met_lines view call (answer_from call.stamp 0 view.run.history)

-- ---- all that differ

abbrev pub cause_or_dash : Option CauseLine → List ℕ
cause_or_dash None = codes "-"
cause_or_dash (Some l) = cause_word l.cause

-- that of the line at this place: the causes are of the lines, in their order
unfoldable pub cause_of_place : Option (List CauseLine) → ℕ → List ℕ
cause_of_place None n = codes "-"
cause_of_place (Some causes) n = cause_or_dash (slice_get causes n)

unfoldable pub text_shown : Option Captured → List ℕ
text_shown None = []
text_shown (Some call) = call_shown call.call

-- which call it is: its stamp, its session, its place there
unfoldable pub place_shown : Line → List ℕ
place_shown l = decimal l.stamp ++ (codes " " ++ (decimal l.session ++ (codes "." ++ decimal l.place)))

unfoldable pub differing_line : ShownView → ℕ → Line → List ℕ
differing_line view n l =
    line (place_shown l ++ (codes " " ++ (class_word l.class ++ (codes " " ++ (cause_of_place view.run.causes n ++ (codes " " ++ text_shown (slice_get view.calls l.stamp)))))))

-- the lines of the report from this place on
abbrev pub differing_from : ShownView → ℕ → List Line → List ℕ
differing_from view n [] = []
differing_from view n (l ∷ lines) = differing_line view n l ++ differing_from view (n + 1) lines

abbrev pub differing_lines : ShownView → List ℕ
differing_lines view = differing_from view 0 view.run.report.lines
