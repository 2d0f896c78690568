-- Words of private clauses and of what holds of fields. They need not be believed.
use Rattle.std.specs.Prelude.{◌≡◌, ◌⊎◌, ℕ, ◌<◌, ◌≤◌, Bool, true, false, if◌then◌else◌, List, [], ◌∷◌, ◌++◌, length, slice_get, slice_index_or, slice_set, Option, None, Some, is_none, Result, Ok, Err, ⊤}
use Rattle.std.specs.List.{AllByRecursion, Any}
use Rattle.desk_values.specs.declared.memory.Memory.{Memory as NoMemory}
use Rattle.desk_values.specs.declared.call.Call.{Call}
use Rattle.desk_values.specs.declared.capture.Captured.{Captured}
use Rattle.desk_files.specs.Outside.{HasRisen, Told}
use Rattle.captured_calls.specs.Sessions.{calls_of}
use Rattle.replay_history.specs.Gap.{IsCallAt}
use Rattle.replay_history.specs.History.{AnswersAll}
use Rattle.replay_job.specs.Job.{JobView}
use Rattle.remote_link.specs.declared.heard.Heard.{Heard}
use Rattle.remote_link.specs.declared.link_err.LinkErr.{LinkErr}
use Rattle.remote_link.specs.declared.link_err.LinkErr.TheVariants as refusal
use Rattle.remote_link.specs.Heard.{heard}
use Rattle.remote_desk.specs.Desk.{IsDispatched, IsHeard, IsKept, MayDispatch, RemoteView}
use Rattle.remote_desk.specs.declared.event.RemoteEvent.{RemoteEvent}
use Rattle.remote_desk.specs.declared.event.RemoteEvent.TheVariants as event
use Rattle.remote_desk.specs.History.{AnswersAt, plain}
use Rattle.remote_desk.specs.Said.{reply_to}
use Rattle.desk_values.specs.declared.call.Reply.{Reply}
use Rattle.remote_target.specs.declared.line.Line.{Line}
use Rattle.remote_target.specs.declared.remote_err.RemoteErr.{RemoteErr}
use Rattle.remote_target.specs.declared.remote_err.RemoteErr.TheVariants.{Link as LinkFailed, OtherJob, Mismatch, Memory}
use Rattle.remote_target.specs.declared.seats.Seat.{Seat}
use Rattle.remote_target.specs.Agreement.{AgreesAt, AgreesIn, DiffersAt, DiffersOn, OfLine, kept_of}
use Rattle.remote_target.specs.Ends.{HasGoodReplies, IsDifference}
use Rattle.remote_target.specs.Lines.{IsInOrder}
use Rattle.remote_target.specs.Spoken.{IsOwn, IsUnbroken}

-- ---- lines

abbrev pub session_on : {L : Type 0} → Line L → ℕ
session_on line = line.session

abbrev pub seat_session : {L : Type 0} → Seat L → ℕ
seat_session seat = seat.session

abbrev pub refusal_on : {L : Type 0} → Line L → Option LinkErr
refusal_on line = line.spoken.refusal

-- what was said on a line as its lane kept it, and why it refused
pub record SaidView : Type 0 where
  pub heard : List Heard
  pub refusal : Option LinkErr

abbrev pub said_on : {L : Type 0} → Line L → SaidView
said_on line = record { heard = line.spoken.heard; refusal = line.spoken.refusal }

-- nothing was said on it
abbrev pub IsFresh : SaidView → Type 0
IsFresh said = (said.heard ≡ []) × (said.refusal ≡ None)

-- ---- giving lines back

-- the line tells this: what was kept, or that without a last call which it refused
pub record IsToldOf (said : SaidView) (list : List Heard) : Type 0 where
  pub own : IsOwn said.heard list
  pub fair : said.refusal ≡ None → said.heard ≡ list
  pub unbroken : IsUnbroken list

abbrev pub AreToldOf : List SaidView → List (List Heard) → Type 0
AreToldOf [] [] = ⊤
AreToldOf (said ∷ others) (list ∷ lists) = IsToldOf said list × AreToldOf others lists
AreToldOf saids lists = ⊥

-- what the lines tell was all added; or that of as many at most, where memory was short
abbrev pub GivesLines : List SaidView → Result (Unit {0}) NoMemory → Option (List (List Heard)) → Option (List (List Heard)) → Type 0
GivesLines saids (Ok done) before after = Told before (λ told. (lists : List (List Heard)) × AreToldOf saids lists × (after ≡ Some (told ++ lists)))
GivesLines saids (Err memory) before after = Told before (λ told. (lists : List (List Heard)) × (length lists ≤ length saids) × (after ≡ Some (told ++ lists)))

-- what a replay came to, with its lines given back; or memory was short for that
abbrev pub IsReturned : Result RemoteView RemoteErr → List SaidView → Result RemoteView RemoteErr → Option (List (List Heard)) → Option (List (List Heard)) → Type 0
IsReturned outcome saids result before after = ((result ≡ outcome) × GivesLines saids (Ok tt) before after)
    ⊎ ((result ≡ Err Memory) × ((short : NoMemory) × GivesLines saids (Err short) before after))

-- the count of a dial that was given back lines, by why they refused
pub record CountsLines (refusals : List (Option LinkErr)) (before after : ℕ) : Type 0 where
  pub rises : Any (λ (r : Option LinkErr). r ≡ Some refusal.Failed) refusals → HasRisen before after
  pub stays : AllByRecursion (λ (r : Option LinkErr). r ≡ None) refusals → after ≡ before
  pub never_falls : before ≤ after

-- ---- the comparison

-- what the comparison of one session answers
abbrev pub ComparesIn : Bool → ℕ → List Heard → List Heard → Result (Unit {0}) RemoteErr → Type 0
ComparesIn stopped session kept answered (Ok done) = AgreesIn stopped kept answered
ComparesIn stopped session kept answered (Err (Mismatch own place one other)) = (own ≡ session) × DiffersAt stopped kept answered place one other
ComparesIn stopped session kept answered (Err Memory) = ⊤
ComparesIn stopped session kept answered (Err LinkFailed) = ⊥
ComparesIn stopped session kept answered (Err (OtherJob job)) = ⊥

-- the place of the event that answers a call, where there is one
abbrev pub IsPlace : ℕ → List RemoteEvent → Option ℕ → Type 0
IsPlace k events None = reply_to k events ≡ None
IsPlace k events (Some i) = (reply : Reply) × AnswersAt events i k reply × (reply_to k events ≡ Some reply)

-- by stamp those of so many calls
pub record ArePlaces (events : List RemoteEvent) (count : ℕ) (places : List (Option ℕ)) : Type 0 where
  pub len : length places ≡ count
  pub each : (k : ℕ) → k < count → IsPlace k events (slice_index_or places k None)

-- with this place at a stamp where none stands
abbrev pub noted : List (Option ℕ) → ℕ → ℕ → List (Option ℕ)
noted places stamp place = if is_none (slice_index_or places stamp (Some 0)) then slice_set places stamp (Some place) else places

-- what an event notes
abbrev pub noted_by : RemoteEvent → List (Option ℕ) → ℕ → List (Option ℕ)
noted_by (event.Start k pause) places place = places
noted_by (event.Sent k call) places place = places
noted_by (event.Answer k reply) places place = noted places k place

-- the reply that an event tells, where there is one
abbrev pub reply_of : Option RemoteEvent → Option Reply
reply_of None = None
reply_of (Some (event.Start k pause)) = None
reply_of (Some (event.Sent k call)) = None
reply_of (Some (event.Answer k reply)) = Some reply

-- the first lacks the reply, and may, and has the same call
abbrev pub Lacks : Bool → Heard → Heard → Type 0
Lacks lax one other = (lax ≡ true) × (one.reply ≡ None) × (one.call ≡ other.call)

-- the two are one, or the first lacks the reply and may
abbrev pub Agrees : Bool → Heard → Heard → Type 0
Agrees lax one other = (one ≡ other) ⊎ Lacks lax one other

-- the first place at which the two differ
abbrev pub DiffersFirst : Bool → List Heard → List Heard → Option ℕ → Type 0
DiffersFirst stopped kept answered None = AgreesIn stopped kept answered
DiffersFirst stopped kept answered (Some place) = ((i : ℕ) → i < place → AgreesAt stopped kept answered i) × (AgreesAt stopped kept answered place → ⊥)

-- ---- a desk with its lines

-- each line heard what the desk keeps of its session, but that the desk may lack the reply to its last call
abbrev pub AreAgreed : RemoteView → List OfLine → Type 0
AreAgreed desk lines = AllByRecursion (λ (line : OfLine). AgreesIn true (kept_of desk line.0) line.1) lines

-- no session has two lines
abbrev pub HasOneEach : List ℕ → Type 0
HasOneEach its = (i j session : ℕ) → slice_get its i ≡ Some session → slice_get its j ≡ Some session → i ≡ j

pub record SendingView (L : Type 0) : Type 0 where
  pub desk : RemoteView
  pub lines : List (Line L)

-- in this list of sessions by line, that of the call with this stamp stands at this place
pub record IsPlaceOf (calls : List Captured) (its : List ℕ) (k place : ℕ) : Type 0 where
  pub call : Captured
  pub at : IsCallAt calls k call
  pub there : slice_get its place ≡ Some call.session

-- A call was sent by a line, and its reply noted. Or else nothing was done; or the call was sent, and the desk notes that, and no
-- reply.
abbrev pub Exchanges : ℕ → RemoteView → List Heard → Result (Unit {0}) LinkErr → RemoteView → List Heard → Type 0
Exchanges k old list (Ok done) new list' = (call : Call) × (reply : Reply) × (middle : RemoteView)
    × IsDispatched old k call middle × IsHeard middle k reply new × (list' ≡ list ++ heard call (Some reply) ∷ []) × MayDispatch old.events k
Exchanges k old list (Err refused) new list' = ((new ≡ old) × (list' ≡ list))
    ⊎ ((call : Call) × (found : Option Reply) × IsDispatched old k call new × (list' ≡ list ++ heard call found ∷ []) × MayDispatch old.events k)

-- ---- what comes of it

-- what a line's refusal is told as
abbrev pub told : LinkErr → RemoteErr
told refusal.Failed = LinkFailed
told refusal.Memory = Memory

-- no line refused a call, or this is how the first that did is told
abbrev pub IsRefused : List (Option LinkErr) → Result (Unit {0}) RemoteErr → Type 0
IsRefused refusals (Ok done) = AllByRecursion (λ (r : Option LinkErr). r ≡ None) refusals
IsRefused refusals (Err error) = ((error ≡ LinkFailed) ⊎ (error ≡ Memory)) × (error ≡ LinkFailed → Any (λ (r : Option LinkErr). r ≡ Some refusal.Failed) refusals)

-- each line was sent calls of its session in order
abbrev pub AreSentInOrder : JobView → List OfLine → Type 0
AreSentInOrder job lines = AllByRecursion (λ (line : OfLine). IsInOrder (calls_of line.0 job.calls) line.1) lines

-- a desk of the job differs from these lines
pub record HasFound (job : JobView) (lines : List OfLine) (session place : ℕ) (kept answered : Option Heard) : Type 0 where
  pub desk : RemoteView
  pub job_is : desk.job ≡ job
  pub is_kept : IsKept desk
  pub differs : DiffersOn desk lines session place kept answered

-- how a replay may come to no end
abbrev pub IsBroken : JobView → List OfLine → List (Option LinkErr) → RemoteErr → Type 0
IsBroken job lines refusals LinkFailed = AreSentInOrder job lines × Any (λ (r : Option LinkErr). r ≡ Some refusal.Failed) refusals
IsBroken job lines refusals (OtherJob kept) = IsDifference job (OtherJob kept)
IsBroken job lines refusals (Mismatch session place kept answered) = HasFound job lines session place kept answered × HasGoodReplies (Mismatch session place kept answered)
IsBroken job lines refusals Memory = ⊤

-- what the lanes left: a desk of the job that agrees with its lines, none of which refused a call, or why it is none
abbrev pub IsJudged : JobView → RemoteView → List OfLine → List (Option LinkErr) → Result (Unit {0}) RemoteErr → Type 0
IsJudged job desk lines refusals (Ok done) = (desk.job ≡ job) × IsKept desk × AreAgreed desk lines × IsRefused refusals (Ok tt) × (desk.stopped ≡ false)
IsJudged job desk lines refusals (Err error) = IsBroken job lines refusals error

-- and what is left behind them: each line heard just what the desk keeps of its session, and every call is answered
pub record IsEnded (job : JobView) (lines : List OfLine) (refusals : List (Option LinkErr)) (desk : RemoteView) : Type 0 where
  pub job_is : desk.job ≡ job
  pub kept : IsKept desk
  pub whole : AnswersAll job.calls (plain desk.events)
  pub lines_are : AllByRecursion (λ (line : OfLine). line.1 ≡ kept_of desk line.0) lines
  pub fair : IsRefused refusals (Ok tt)

abbrev pub IsOutcome : JobView → List OfLine → List (Option LinkErr) → Result RemoteView RemoteErr → Type 0
IsOutcome job lines refusals (Ok desk) = IsEnded job lines refusals desk
IsOutcome job lines refusals (Err error) = IsBroken job lines refusals error
