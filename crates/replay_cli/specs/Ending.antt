-- How a command ends: its status, its line and its files.
use Rattle.std.specs.Prelude.{◌≡◌, ◌≢◌, ℕ, ◌≤◌, ◌⊎◌, List, Option, None, Some, IsErr, IsErrOf, IsNone, Result, Ok, Err, ⊤}
use Rattle.desk_files.specs.Outside.{Answered, Appends, AppendsPart, DeviceFailed, Ending, FileMap, HasRisen, MemoryShort}
use Rattle.desk_files.specs.Writes.{CutShort, WrittenSoFar, with_all}
use Rattle.desk_schema.specs.Start.{StartView}
use Rattle.desk_words.specs.declared.words.Command.{Command}
use Rattle.desk_words.specs.declared.words.Command.TheVariants.{Run, Serve, Register, Runs, Accept, Compare}
use Rattle.desk_words.specs.Command.{command_of}
use Rattle.capture_serve.specs.declared.failing.Finding.{Finding}
use Rattle.capture_serve.specs.Failing.{IsFinding}
use Rattle.capture_serve.specs.Service.{HasGivenBackAll}
use Rattle.replay_cli.specs.declared.failure.Failure.{Failure}
use Rattle.replay_cli.specs.declared.failure.Failure.TheVariants.{BadCommand, Refused, Differs, NotDone, NotSent, DeviceFault, OutOfMemory}
use Rattle.replay_cli.specs.declared.plan.Plan.{Plan}
use Rattle.register_work.specs.declared.errand.Errand.{Errand}
use Rattle.register_work.specs.declared.unkept.Unkept.{Unkept}
use Rattle.register_work.specs.Errand.{IsCause, IsUnclosed}
use Rattle.register_work.specs.Lines.{unkept_line, unkept_status}
use Rattle.replay_cli.specs.Decision.{IsErrandOf, IsSpelled, IsTaskOf, MayBeRefused, Task, ToKeep, ToSend, ToServe}
use Rattle.replay_cli.specs.Hosting.{Dialling, HasKept, HasNoFault, Hosting, IsDialUnasked, IsHostUnasked, IsKeeperUntouched, IsUnasked}
use Rattle.replay_cli.specs.Done.{HandsBack, IsDone}
use Rattle.replay_cli.specs.Lines.{done_status, failure_line, failure_status, finding_line, unsent_line, unsent_status}
use Rattle.replay_job.specs.Job.{JobView}
use Rattle.remote_target.specs.declared.remote_err.RemoteErr.{RemoteErr}
use Rattle.remote_target.specs.declared.remote_err.RemoteErr.TheVariants as remote
use Rattle.remote_target.specs.Dialled.{DialsOnce}
use Rattle.remote_target.specs.Ends.{EndsSo as EndsSent, GaveBack, IsDifference}
use Rattle.replay_cli.specs.declared.unsent.Unsent.{Unsent}
use Rattle.replay_cli.specs.declared.unsent.Unsent.TheVariants as unsent

-- ---- who is asked

-- the host stays as it was but for a command that serves, the keeper but for those of runs, and the dial but for a replay with a target
abbrev pub MayAsk : Option Command → Hosting → Type 0
MayAsk (Some (Run capture out ways)) h = IsHostUnasked h × IsKeeperUntouched h × (ways.target ≡ None → IsDialUnasked h)
MayAsk (Some (Serve capture start connections port)) h = IsKeeperUntouched h × IsDialUnasked h
MayAsk (Some (Register out run)) h = IsHostUnasked h × IsDialUnasked h
MayAsk (Some Runs) h = IsHostUnasked h × IsDialUnasked h
MayAsk (Some (Accept run stamp class)) h = IsHostUnasked h × IsDialUnasked h
MayAsk (Some (Compare base other)) h = IsHostUnasked h × IsDialUnasked h
MayAsk other h = IsUnasked h

-- ---- what is given back

-- nothing was asked of the host, the keeper and the dial, and the keeper was not closed
abbrev pub IsNothingAsked : Hosting → ℕ → ℕ → Type 0
IsNothingAsked h closes closes' = IsUnasked h × (closes' ≡ closes)

-- what some task of the command had of them was given back
abbrev pub SomeHandsBack : Command → Hosting → ℕ → ℕ → Type 0
SomeHandsBack command h closes closes' = (task : Task) × IsTaskOf command task × HandsBack task h closes closes'

-- by what the words came to, whatever the files tell: where they are no command or a file is refused nothing was asked; a task that was done,
-- or came to no end, gave back what it had; and so did one where a device failed or memory was short, or nothing was asked so far
abbrev pub GivesAllBack : Option Command → Hosting → ℕ → ℕ → Result Plan Failure → Type 0
GivesAllBack None h closes closes' done = IsNothingAsked h closes closes'
GivesAllBack (Some command) h closes closes' (Ok plan) = SomeHandsBack command h closes closes'
GivesAllBack (Some command) h closes closes' (Err BadCommand) = IsNothingAsked h closes closes'
GivesAllBack (Some command) h closes closes' (Err (Refused refusal)) = IsNothingAsked h closes closes'
GivesAllBack (Some command) h closes closes' (Err (Differs finding)) = SomeHandsBack command h closes closes'
GivesAllBack (Some command) h closes closes' (Err (NotDone cause)) = SomeHandsBack command h closes closes'
GivesAllBack (Some command) h closes closes' (Err (NotSent cause)) = SomeHandsBack command h closes closes'
GivesAllBack (Some command) h closes closes' (Err DeviceFault) = IsNothingAsked h closes closes' ⊎ SomeHandsBack command h closes closes'
GivesAllBack (Some command) h closes closes' (Err OutOfMemory) = IsNothingAsked h closes closes' ⊎ SomeHandsBack command h closes closes'

-- ---- doing the work

-- what was written of a plan, where not all of it was; a file is cut short only where the count of faults rose
abbrev pub WrittenInPart : Plan → FileMap → FileMap → ℕ → ℕ → Type 0
WrittenInPart plan before after faults_before faults_after =
    WrittenSoFar plan.writes before after ⊎ (CutShort plan.writes before after × HasRisen faults_before faults_after)

-- a replay against another server may have dialled: no more often than there are sessions with a call, and each line that it was given
-- was given back, but for one at most, where the count of faults rose
abbrev pub HasDialled : Task → Dialling → Type 0
HasDialled (ToSend out job port) dial = DialsOnce job.calls (Err remote.Memory) dial.before dial.after dial.counts_before dial.counts_after
HasDialled other dial = ⊤

-- the keeper tells what it did; or the errand of the task was answered, and then closing the keeper ended so
abbrev pub KeptAs : Task → Ending → Hosting → Type 0
KeptAs (ToKeep errand) ending h = HasKept h ⊎ IsUnclosed errand h.keeper ending
KeptAs other ending h = HasKept h

-- what is left of a task that was not done, or not told, where a device failed or memory was short; nothing is written where the host
-- failed, and nothing kept where the keeper did before it was closed
abbrev pub LeftOf : Task → Ending → FileMap → FileMap → ℕ → ℕ → Hosting → Type 0
LeftOf task ending before after faults_before faults_after h =
    ((after ≡ before) × KeptAs task ending h × HasDialled task h.dial) ⊎ ((plan : Plan) × IsDone task plan h × HasNoFault h × WrittenInPart plan before after faults_before faults_after)

-- ---- what was served and differs

-- this was found to differ of what was served for this task, and all connections were given back
abbrev pub IsFoundOf : Task → Finding → Hosting → Type 0
IsFoundOf (ToServe out start most port) finding h = IsFinding start finding × HasGivenBackAll most h.before h.after × IsKeeperUntouched h × IsDialUnasked h
IsFoundOf other finding h = ⊥

-- this command is one that serves, this may be found in what is served from a start that some start file spells, and all connections were
-- given back
abbrev pub MayDiffer : Command → Finding → Hosting → Type 0
MayDiffer (Serve capture start connections port) finding h = ((begins : StartView) × IsSpelled begins × IsFinding begins finding) × HasGivenBackAll connections h.before h.after × IsKeeperUntouched h × IsDialUnasked h
MayDiffer other finding h = ⊥

-- ---- what is not done of runs

-- this is the cause why the errand of this task is not done, and all is left as it was
abbrev pub IsCauseOf : Task → Unkept → Hosting → Type 0
IsCauseOf (ToKeep errand) cause h = IsCause errand h.keeper.runs_before cause × IsUnasked h
IsCauseOf other cause h = ⊥

-- ---- what is not sent to its end

-- the cause that an error of a replay against another server is told by
abbrev pub unsent_of : RemoteErr → Option Unsent
unsent_of remote.Link = Some unsent.Link
unsent_of (remote.OtherJob kept) = Some unsent.Job
unsent_of (remote.Mismatch session place kept answered) = Some (unsent.Mismatch session place kept answered)
unsent_of remote.Memory = None

-- the replay of a job against another server ended so: it was dialled no more often than there are sessions with a call, a line was given
-- back for each dial, but for one with a failure of the link, which comes only where the count of faults rose, and two values that differ
-- are told
pub record IsUnsent (job : JobView) (cause : Unsent) (dial : Dialling) : Type 0 where
  pub error : RemoteErr
  pub told : unsent_of error ≡ Some cause
  pub back : GaveBack job (Err error) dial.before dial.after
  pub once : DialsOnce job.calls (Err error) dial.before dial.after dial.counts_before dial.counts_after
  pub ends : EndsSent (Err error) dial.counts_before.faults dial.counts_after.faults
  pub differs : IsDifference job error

-- this is the cause why the replay of this task came to no end
abbrev pub IsUnsentOf : Task → Unsent → Hosting → Type 0
IsUnsentOf (ToSend out job port) cause h = IsUnsent job cause h.dial × IsHostUnasked h × IsKeeperUntouched h
IsUnsentOf other cause h = ⊥

-- this command is a replay with a target, of some job
abbrev pub MayBeUnsent : Command → Unsent → Hosting → Type 0
MayBeUnsent command cause h = (task : Task) × IsTaskOf command task × IsUnsentOf task cause h

-- ---- the line and the status

abbrev pub status_of : Result Plan Failure → ℕ
status_of (Ok plan) = done_status plan.differs
status_of (Err failure) = failure_status failure

abbrev pub line_of : Result Plan Failure → List ℕ
line_of (Ok plan) = plan.line
line_of (Err failure) = failure_line failure

-- the line is printed, with this status; or in part at most, with that of a fault
abbrev pub Prints : List ℕ → ℕ → ℕ → Option (List ℕ) → Option (List ℕ) → ℕ → ℕ → Type 0
Prints line status result before after faults_before faults_after =
    ((result ≡ status) × Appends line before after × (faults_after ≡ faults_before)) ⊎ ((result ≡ 5) × HasRisen faults_before faults_after × AppendsPart line before after)

-- the line and the status of this outcome; or the line of a failure could not be made, which that of a fault always can; or a line
-- was not printed whole
abbrev pub Reports : Result Plan Failure → ℕ → Option (List ℕ) → Option (List ℕ) → ℕ → ℕ → Type 0
Reports done result before after faults_before faults_after =
    ((result ≡ status_of done) × Appends (line_of done) before after × (faults_after ≡ faults_before))
    ⊎ (((result ≡ 6) × Appends (failure_line OutOfMemory) before after × (faults_after ≡ faults_before) × ¬ IsErrOf done DeviceFault × IsErr done)
    ⊎ ((result ≡ 5) × HasRisen faults_before faults_after × (AppendsPart (line_of done) before after ⊎ (AppendsPart (failure_line OutOfMemory) before after × ¬ IsErrOf done DeviceFault × IsErr done))))

-- ---- the top call

abbrev pub IsOutside : ℕ → Type 0
IsOutside result = (result ≡ 5) ⊎ (result ≡ 6)

-- what a status outside of a verdict comes of: with 6 memory was short; with 5 a device failed, or memory was short and the output failed
abbrev pub IsEndingOf : Ending → ℕ → Type 0
IsEndingOf DeviceFailed result = result ≡ 5
IsEndingOf MemoryShort result = IsOutside result
IsEndingOf Answered result = ⊥

-- a task that is done has status 0, or 1 where calls differ or a comparison found something new or changed, its line and its files
abbrev pub EndsDone : Task → FileMap → FileMap → Hosting → ℕ → Option (List ℕ) → Option (List ℕ) → Type 0
EndsDone task files files_after h result before after =
    (plan : Plan) × IsDone task plan h × (files_after ≡ with_all plan.writes files) × (result ≡ done_status plan.differs) × Appends plan.line before after

-- one of which something was found to differ has status 9 and its line, and changes no file
abbrev pub EndsFound : Task → FileMap → FileMap → Hosting → ℕ → Option (List ℕ) → Option (List ℕ) → Type 0
EndsFound task files files_after h result before after =
    (finding : Finding) × IsFoundOf task finding h × (files_after ≡ files) × (result ≡ 9) × Appends (finding_line finding) before after

-- one of which the errand is not done has the status and the line of the cause, and changes no file and nothing that is kept
abbrev pub EndsNotDone : Task → FileMap → FileMap → Hosting → ℕ → Option (List ℕ) → Option (List ℕ) → Type 0
EndsNotDone task files files_after h result before after =
    (cause : Unkept) × IsCauseOf task cause h × (files_after ≡ files) × (result ≡ unkept_status cause) × Appends (unkept_line cause) before after

-- a replay against another server that came to no end has the status and the line of the cause, and changes no file
abbrev pub EndsUnsent : Task → FileMap → FileMap → Hosting → ℕ → Option (List ℕ) → Option (List ℕ) → Type 0
EndsUnsent task files files_after h result before after =
    (cause : Unsent) × IsUnsentOf task cause h × (files_after ≡ files) × (result ≡ unsent_status cause) × Appends (unsent_line cause) before after

-- The end that a verdict has: a failure has its status and its line, changes no file and asks neither host nor keeper nor dial; a task
-- that is done has those of what it came to. Or else a device failed or memory was short, and the task is done in part, or done and not
-- told; the clause `line` says more of the register.
abbrev pub Ends : Result Task Failure → FileMap → FileMap → ℕ → ℕ → Hosting → ℕ → Option (List ℕ) → Option (List ℕ) → Type 0
Ends (Err failure) files files_after fb fa h result before after =
    (files_after ≡ files) × IsUnasked h × (((result ≡ failure_status failure) × Appends (failure_line failure) before after) ⊎ IsOutside result)
Ends (Ok task) files files_after fb fa h result before after =
    EndsDone task files files_after h result before after
    ⊎ (EndsFound task files files_after h result before after
    ⊎ (EndsNotDone task files files_after h result before after
    ⊎ (EndsUnsent task files files_after h result before after
    ⊎ (IsOutside result × ((ending : Ending) × IsEndingOf ending result × LeftOf task ending files files_after fb fa h)))))

-- the end that some verdict has; or a device failed or memory was short before there was one
abbrev pub EndsSo : (Result Task Failure → Type 0) → FileMap → FileMap → ℕ → ℕ → Hosting → ℕ → Option (List ℕ) → Option (List ℕ) → Type 0
EndsSo wanted files files_after fb fa h result before after =
    ((verdict : Result Task Failure) × wanted verdict × Ends verdict files files_after fb fa h result before after)
    ⊎ (IsOutside result × (files_after ≡ files) × IsUnasked h)

-- where a device failed or memory was short: the keeper tells what it did, or an errand of the command was answered, and then closing the
-- keeper ended so
abbrev pub MayHaveKept : Command → Ending → Hosting → Type 0
MayHaveKept command ending h = HasKept h ⊎ ((errand : Errand) × IsErrandOf command errand × IsUnclosed errand h.keeper ending)

-- what words may come to, whatever the files are: where they are no command, that; where they are one, a task of it that is done, what may
-- differ of what it serves, a cause why its errand is not done, or a failure that it may have; and memory may be short. Where a device
-- failed or memory was short, nothing is kept that was not kept before, or its errand was answered and the keeper could not be closed: for
-- a device that failed, where one did, and for want of memory, where that was short.
abbrev pub MayComeTo : Option Command → Hosting → Result Plan Failure → Type 0
MayComeTo None h done = (IsErrOf done BadCommand ⊎ IsErrOf done OutOfMemory) × IsUnasked h
MayComeTo (Some command) h (Ok plan) = (task : Task) × IsTaskOf command task × IsDone task plan h
MayComeTo (Some command) h (Err BadCommand) = ⊥
MayComeTo (Some command) h (Err (Refused refusal)) = MayBeRefused command refusal × IsUnasked h
MayComeTo (Some command) h (Err (Differs finding)) = MayDiffer command finding h
MayComeTo (Some command) h (Err (NotDone cause)) = (errand : Errand) × IsErrandOf command errand × IsCauseOf (ToKeep errand) cause h
MayComeTo (Some command) h (Err (NotSent cause)) = MayBeUnsent command cause h
MayComeTo (Some command) h (Err DeviceFault) = MayHaveKept command DeviceFailed h
MayComeTo (Some command) h (Err OutOfMemory) = MayHaveKept command MemoryShort h

-- what is printed, also where the files are not told: the line of what the words may come to; and what was had is given back, and the keeper
-- closed, before that
abbrev pub PrintsLine : List (List ℕ) → Hosting → ℕ → ℕ → ℕ → Option (List ℕ) → Option (List ℕ) → ℕ → ℕ → Type 0
PrintsLine words h closes closes' result before after faults_before faults_after =
    (done : Result Plan Failure) × MayComeTo (command_of words) h done × Reports done result before after faults_before faults_after × GivesAllBack (command_of words) h closes closes' done

-- how the counts of faults move: of the files, of the host, of the keeper, of the dial and of the sink
pub record Moves : Type 0 where
  pub files_before : ℕ
  pub files_after : ℕ
  pub host_before : ℕ
  pub host_after : ℕ
  pub keeper_before : ℕ
  pub keeper_after : ℕ
  pub dial_before : ℕ
  pub dial_after : ℕ
  pub out_before : ℕ
  pub out_after : ℕ

abbrev pub moves : ℕ → ℕ → ℕ → ℕ → ℕ → ℕ → ℕ → ℕ → ℕ → ℕ → Moves
moves fb fa hb ha kb ka db da sb sa =
    record { files_before = fb; files_after = fa; host_before = hb; host_after = ha; keeper_before = kb; keeper_after = ka; dial_before = db; dial_after = da; out_before = sb; out_after = sa }

-- none rose but that of the dial, which a replay with a target tells by itself
pub record Stands (m : Moves) : Type 0 where
  pub files : m.files_after ≡ m.files_before
  pub host : m.host_after ≡ m.host_before
  pub keeper : m.keeper_after ≡ m.keeper_before
  pub out : m.out_after ≡ m.out_before

-- 2 comes only where the words are no command, 5 only where a count rose and 10 only where that of the dial did, with any other status
-- all counts but that of the dial stand, and none falls
pub record Causes (words : List (List ℕ)) (result : ℕ) (m : Moves) : Type 0 where
  pub command : result ≡ 2 → IsNone (command_of words)
  pub fault : result ≡ 5 → HasRisen m.files_before m.files_after ⊎ (HasRisen m.host_before m.host_after ⊎ (HasRisen m.keeper_before m.keeper_after ⊎ HasRisen m.out_before m.out_after))
  pub link : result ≡ 10 → HasRisen m.dial_before m.dial_after
  pub stands : result ≢ 5 → Stands m
  pub files : m.files_before ≤ m.files_after
  pub host : m.host_before ≤ m.host_after
  pub keeper : m.keeper_before ≤ m.keeper_after
  pub dial : m.dial_before ≤ m.dial_after
  pub out : m.out_before ≤ m.out_after
