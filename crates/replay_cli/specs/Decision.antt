-- What the words and the files come to: a list of steps, of which the first that refuses decides.
use Rattle.std.specs.Prelude.{◌≡◌, ℕ, ◌-◌, ◌<◌, ◌⊎◌, nat_lt, if◌then◌else◌, List, [], ◌∷◌, ◌++◌, length, slice_get, codes, Option, None, Some, Result, Ok, Err}
use Rattle.desk_values.specs.declared.capture.Captured.{Captured}
use Rattle.desk_values.specs.Limits.{session_limit}
use Rattle.std.specs.FinMap.{get}
use Rattle.desk_files.specs.Outside.{FileMap}
use Rattle.desk_files.specs.Limits.{file_limit}
use Rattle.desk_schema.specs.Schema.{IsVersion}
use Rattle.desk_schema.specs.Start.{StartView}
use Rattle.file_lines.specs.File.{ReadsFile}
use Rattle.file_lines.specs.declared.reader.FormErr.TheVariants.{Bad}
use Rattle.capture_format.specs.declared.start.StartFile.{StartFile}
use Rattle.capture_format.specs.StartFile.{IsBadStart, IsStartFile}
use Rattle.capture_format.specs.SessionFile.{IsBadSession, IsSessionFile}
use Rattle.object_depends.specs.declared.fact.Fact.{Fact}
use Rattle.captured_calls.specs.declared.refusal.Refusal.{Refusal as Illegal}
use Rattle.captured_calls.specs.Verdict.{Preparation, verdict}
use Rattle.replay_cli.specs.declared.capture.Opened.{Opened}
use Rattle.replay_cli.specs.Limits.{capture_limit}
use Rattle.replay_cli.specs.declared.failure.Refusal.{Refusal}
use Rattle.replay_cli.specs.declared.failure.Refusal.TheVariants.{Missing, TooLong, BadLine, BadReport, BadRemap, BadChange, NotLegal, Unshown}
use Rattle.replay_cli.specs.declared.failure.Failure.{Failure}
use Rattle.replay_cli.specs.declared.failure.Failure.TheVariants.{BadCommand, Refused, Differs, NotDone, NotSent, DeviceFault, OutOfMemory}
use Rattle.desk_words.specs.declared.words.Command.{Command}
use Rattle.desk_words.specs.declared.words.Command.TheVariants.{Run, Prepare, Serve, Generate, Trial, Register, Runs, Accept, Compare, Page, Show}
use Rattle.remap_ids.specs.Services.{ServicePair, services_of}
use Rattle.remap_ids.specs.declared.remap.RemapErr.{RemapErr}
use Rattle.remap_ids.specs.declared.remap.RemapErr.TheVariants.{BadRow, TwiceFrom, Memory}
use Rattle.desk_schema.specs.Change.{ChangesTo, IsFirstBad, records_in}
use Rattle.replay_history.specs.declared.report.Report.{Report}
use Rattle.report_format.specs.ReportFile.{IsBadReport, IsReport}
use Rattle.register_work.specs.declared.errand.Errand.{Errand}
use Rattle.register_work.specs.declared.errand.Errand.TheVariants as errand
use Rattle.divergence_cause.specs.declared.cause.CauseLine.{CauseLine}
use Rattle.desk_values.specs.declared.capture.Event.{Event}
use Rattle.replay_history.specs.declared.mode.Mode.{Mode}
use Rattle.replay_history.specs.declared.report.Line.{Line}
use Rattle.replay_report.specs.JournalFile.{IsBadJournal, IsJournal}
use Rattle.run_files.specs.CausesFile.{AreCausesFor}
use Rattle.run_files.specs.Fitting.{RunView, misfit_of}
use Rattle.run_files.specs.ReadsFile.{AreReads, IsBadReads}
use Rattle.run_files.specs.declared.misfit.Misfit.{Misfit}
use Rattle.run_files.specs.declared.misfit.Misfit.TheVariants as misfit
use Rattle.replay_page.specs.Captured.{captured_files}
use Rattle.replay_page.specs.declared.page.NamedText.{NamedText}
use Rattle.replay_page.specs.declared.page.Page.{Page as PageOf}
use Rattle.replay_show.specs.Shown.{ShownView}
use Rattle.replay_cli.specs.declared.unshown.Unshown.{Unshown as NotShown}
use Rattle.replay_cli.specs.declared.unshown.Unshown.TheVariants as unshown
use Rattle.replay_job.specs.Job.{JobView}
use Rattle.replay_job.specs.Jobs.{job_of}
use Rattle.desk_words.specs.declared.ways.Ways.{Ways}
use Rattle.desk_words.specs.Command.{command_of}
use Rattle.replay_cli.specs.FileNames.{causes_name, fence_name, journal_name, report_name, session_name, session_names, start_name}
use Rattle.replay_cli.specs.Steps.{Is, Reading, Then, file_in}

-- ---- a capture

-- the bytes of a file as a reader takes them: what they are the file of, or their first bad line, which is refused so
abbrev pub Reads : {X : Type 0} → (ℕ → Refusal) → (X → Type 0) → (ℕ → Type 0) → Result X Refusal → Type 0
Reads refused IsFileOf IsFirstBad (Ok value) = IsFileOf value
Reads {X} refused IsFileOf IsFirstBad (Err refusal) = (line : ℕ) × ReadsFile {X = X} (Err (Bad line)) IsFileOf IsFirstBad × (refusal ≡ refused line)

abbrev pub StartOf : List ℕ → List ℕ → Result StartFile Refusal → Type 0
StartOf name bytes = Reads (BadLine name) (IsStartFile bytes) (IsBadStart bytes)

abbrev pub SessionOf : ℕ → ℕ → List ℕ → List ℕ → Result (List Captured) Refusal → Type 0
SessionOf version session name bytes = Reads (BadLine name) (IsSessionFile session version bytes) (IsBadSession session version bytes)

-- the start of a capture, and how many bytes its other files may have
abbrev pub OpenedIn : FileMap → List ℕ → Result Opened Refusal → Type 0
OpenedIn files capture =
    Then (Is (file_in files capture_limit (start_name capture))) (λ bytes.
    Then (StartOf (start_name capture) bytes) (λ file.
    Is (Ok (record { file = file; left = capture_limit - length bytes }))))

-- a legal capture: its start, and its calls by stamp with their facts
pub record Legal : Type 0 where
  pub start : StartView
  pub calls : List Captured
  pub facts : List Fact

-- the start and the plan of its calls, or the cause why there is none
abbrev pub legal_from : StartView → Result Preparation Illegal → Result Legal Refusal
legal_from start (Ok p) = Ok (record { start = start; calls = p.calls; facts = p.facts })
legal_from start (Err cause) = Err (NotLegal cause)

-- what the files of a capture say
pub record Read : Type 0 where
  pub start : StartView
  pub sessions : List (List Captured)

-- the files of the capture in a folder: its start file, and as many session files as that says, of its version
abbrev pub ReadIn : FileMap → List ℕ → Result Read Refusal → Type 0
ReadIn files capture =
    Then (OpenedIn files capture) (λ opened.
    Then (Reading (SessionOf opened.file.start.schema.version) files opened.left 0 (session_names capture opened.file.sessions)) (λ sessions.
    Is (Ok (record { start = opened.file.start; sessions = sessions }))))

-- ---- the services that are sent in the place of others

-- a refused record by its number; want of memory is no answer of the file
abbrev pub record_of : RemapErr → ℕ
record_of (BadRow n) = n
record_of (TwiceFrom n) = n
record_of Memory = 0

abbrev pub remap_of : Result (List ServicePair) RemapErr → Result (List ServicePair) Refusal
remap_of (Ok services) = Ok services
remap_of (Err error) = Err (BadRemap (record_of error))

-- what the file of this name says, if one is named
abbrev pub RemapIn : FileMap → Option (List ℕ) → Result (List ServicePair) Refusal → Type 0
RemapIn files None = Is (Ok [])
RemapIn files (Some name) = Then (Is (file_in files file_limit name)) (λ bytes. Is (remap_of (services_of bytes)))

-- what services a replay may send others as: none, or what some remap file of the name says
abbrev pub MaySend : Option (List ℕ) → List ServicePair → Type 0
MaySend None remap = remap ≡ []
MaySend (Some name) remap = (bytes : List ℕ) × (services_of bytes ≡ Ok remap)

-- ---- the target

-- what the bytes of a change file make of the captured start
abbrev pub TargetOf : StartView → List ℕ → Result StartView Refusal → Type 0
TargetOf start bytes (Ok target) = ChangesTo start (records_in bytes) target
TargetOf start bytes (Err refusal) = (n : ℕ) × IsFirstBad start (records_in bytes) n × (refusal ≡ BadChange n)

-- what the file of this name makes of it; the captured start itself, where none is named
abbrev pub TargetIn : FileMap → StartView → Option (List ℕ) → Result StartView Refusal → Type 0
TargetIn files start None = Is (Ok start)
TargetIn files start (Some name) = Then (Is (file_in files file_limit name)) (λ bytes. TargetOf start bytes)

-- what a replay may run on: the captured start, or what some change file of the name makes of it
abbrev pub MayRunOn : Option (List ℕ) → StartView → StartView → Type 0
MayRunOn None start target = target ≡ start
MayRunOn (Some name) start target = (bytes : List ℕ) × ChangesTo start (records_in bytes) target

-- ---- a report

abbrev pub ReportOf : List ℕ → List ℕ → Result Report Refusal → Type 0
ReportOf name bytes = Reads (BadReport name) (IsReport bytes) (IsBadReport bytes)

-- ---- what a run left

-- the bytes of a file, and what they say
abbrev pub Filed : Type 0 → Type 0
Filed X = List ℕ × X

-- the file of this name, and what it says by its bytes
abbrev pub FiledIn : {X : Type 0} → (List ℕ → Result X Refusal → Type 0) → FileMap → List ℕ → Result (Filed X) Refusal → Type 0
FiledIn said files name = Then (Is (file_in files file_limit name)) (λ bytes. Then (said bytes) (λ value. Is (Ok (bytes, value))))

abbrev pub perhaps : Option (List ℕ) → List ℕ → Result (Option (List ℕ)) Refusal
perhaps None name = Ok None
perhaps (Some bytes) name = if nat_lt file_limit (length bytes) then Err (TooLong name) else Ok (Some bytes)

abbrev pub PerhapsSaid : {X : Type 0} → (List ℕ → Result X Refusal → Type 0) → Option (List ℕ) → Result (Option (Filed X)) Refusal → Type 0
PerhapsSaid said None = Is (Ok None)
PerhapsSaid said (Some bytes) = Then (said bytes) (λ value. Is (Ok (Some (bytes, value))))

-- the same of a file that may be missing
abbrev pub PerhapsIn : {X : Type 0} → (List ℕ → Result X Refusal → Type 0) → FileMap → List ℕ → Result (Option (Filed X)) Refusal → Type 0
PerhapsIn said files name = Then (Is (perhaps (get files name) name)) (PerhapsSaid said)

abbrev pub JournalOf : List ℕ → List ℕ → Result (Mode × List Event) Refusal → Type 0
JournalOf name bytes = Reads (λ line. Unshown (unshown.BadJournal name line)) (λ journal. IsJournal bytes journal.0 journal.1) (IsBadJournal bytes)

abbrev pub ReadsOf : List ℕ → List ℕ → Result (List ℕ) Refusal → Type 0
ReadsOf name bytes = Reads (λ line. Unshown (unshown.BadReads name line)) (AreReads bytes) (IsBadReads bytes)

-- the causes of these lines, or that the bytes are none
abbrev pub CausesOf : List Line → List ℕ → Result (List CauseLine) Refusal → Type 0
CausesOf lines bytes (Ok causes) = AreCausesFor lines bytes causes
CausesOf lines bytes (Err refusal) = ((causes : List CauseLine) → ¬ AreCausesFor lines bytes causes) × (refusal ≡ Unshown (unshown.Unfit misfit.Causes))

-- what the files of a run say, and the files themselves
pub record Left : Type 0 where
  pub run : RunView
  pub files : List NamedText

abbrev pub perhaps_named : {X : Type 0} → List ℕ → Option (Filed X) → List NamedText
perhaps_named name None = []
perhaps_named name (Some filed) = record { name = name; bytes = filed.0 } ∷ []

abbrev pub perhaps_value : {X : Type 0} → Option (Filed X) → Option X
perhaps_value None = None
perhaps_value (Some filed) = Some filed.1

abbrev pub left_of : Filed (Mode × List Event) → Filed Report → Option (Filed (List CauseLine)) → Option (Filed (List ℕ)) → Left
left_of journal report causes reads = record {
  run = record { mode = journal.1.0; history = journal.1.1; report = report.1; causes = perhaps_value causes; reads = perhaps_value reads };
  files = perhaps_named (codes "causes.csv") causes ++ (perhaps_named (codes "fence.txt") reads
      ++ (record { name = codes "journal.txt"; bytes = journal.0 } ∷ record { name = codes "report.txt"; bytes = report.0 } ∷ []));
}

-- the journal, the report, and the causes and the plain reads where they are there
abbrev pub LeftIn : FileMap → List ℕ → Result Left Refusal → Type 0
LeftIn files out =
    Then (FiledIn (JournalOf (journal_name out)) files (journal_name out)) (λ journal.
    Then (FiledIn (ReportOf (report_name out)) files (report_name out)) (λ report.
    Then (PerhapsIn (CausesOf report.1.lines) files (causes_name out)) (λ causes.
    Then (PerhapsIn (ReadsOf (fence_name out)) files (fence_name out)) (λ reads.
    Is (Ok (left_of journal report causes reads))))))

-- the files go together with these calls, or the first thing in which they do not
abbrev pub fitting : Option Misfit → Result (Unit {0}) Refusal
fitting None = Ok tt
fitting (Some found) = Err (Unshown (unshown.Unfit found))

-- a legal capture, what a run of it left, and the capture's files as they were read
pub record Together : Type 0 where
  pub legal : Legal
  pub left : Left
  pub captured : List NamedText

-- the capture, then what the run left, then the test of the capture, then whether they go together
abbrev pub TogetherIn : FileMap → List ℕ → List ℕ → Result Together Refusal → Type 0
TogetherIn files capture out =
    Then (ReadIn files capture) (λ read.
    Then (LeftIn files out) (λ left.
    Then (Is (legal_from read.start (verdict read.start read.sessions))) (λ legal.
    Then (Is (fitting (misfit_of legal.calls left.run))) (λ one.
    Is (Ok (record { legal = legal; left = left; captured = captured_files read.start read.sessions }))))))

-- what a page shows of it
abbrev pub page_of : List ℕ → List ℕ → Together → PageOf
page_of capture out t = record { capture = capture; out = out; captured = t.captured; replayed = t.left.files }

-- what is shown of it in lines
abbrev pub shown_of : Together → ShownView
shown_of t = record { start = t.legal.start; calls = t.legal.calls; facts = t.legal.facts; run = t.left.run }

-- there is a call with the stamp, if one is said
abbrev pub stamp_in : Option ℕ → List Captured → Result (Unit {0}) Refusal
stamp_in None calls = Ok tt
stamp_in (Some stamp) calls = if nat_lt stamp (length calls) then Ok tt else Err (Unshown (unshown.NoCall stamp))

-- ---- a command

-- what is to be done, and what it takes
pub data Task : Type 0 where
  ToReplay : List ℕ → JobView → Task
  -- against the server at this port
  ToSend : List ℕ → JobView → ℕ → Task
  ToTell : List ℕ → List Fact → Task
  -- into this folder, from this start, at most so many connections at this port
  ToServe : List ℕ → StartView → ℕ → ℕ → Task
  ToMake : ℕ → List ℕ → Task
  ToTry : ℕ → Task
  -- of the keeper
  ToKeep : Errand → Task
  -- a page of so many calls, of which so many differ
  ToPage : PageOf → ℕ → ℕ → Task
  -- all calls that differ, or the one with this stamp
  ToShow : ShownView → Option ℕ → Task

-- a legal capture that is replayed so, on this target
abbrev pub run_job : Legal → StartView → List ServicePair → Ways → JobView
run_job legal target remap ways = job_of legal.start target (record { calls = legal.calls; facts = legal.facts }) remap ways.mode ways.think ways.connect

-- on the desk's own server, or against one at a port
abbrev pub run_task : List ℕ → JobView → Option ℕ → Task
run_task out job None = ToReplay out job
run_task out job (Some port) = ToSend out job port

-- the steps of a run: the files of the capture, the remap file, the change file, the test of the capture
abbrev pub RunIn : FileMap → List ℕ → List ℕ → Ways → Result Task Refusal → Type 0
RunIn files capture out ways =
    Then (ReadIn files capture) (λ read.
    Then (RemapIn files ways.remap) (λ remap.
    Then (TargetIn files read.start ways.change) (λ target.
    Then (Is (legal_from read.start (verdict read.start read.sessions))) (λ legal.
    Is (Ok (run_task out (run_job legal target remap ways) ways.target))))))

abbrev pub PrepareIn : FileMap → List ℕ → List ℕ → Result Task Refusal → Type 0
PrepareIn files capture out =
    Then (ReadIn files capture) (λ read.
    Then (Is (legal_from read.start (verdict read.start read.sessions))) (λ legal.
    Is (Ok (ToTell out legal.facts))))

-- the start in the file of this name; how many sessions it tells of is not asked
abbrev pub StartIn : FileMap → List ℕ → Result StartFile Refusal → Type 0
StartIn files name = Then (Is (file_in files file_limit name)) (λ bytes. StartOf name bytes)

abbrev pub ServeIn : FileMap → List ℕ → List ℕ → ℕ → ℕ → Result Task Refusal → Type 0
ServeIn files capture start connections port =
    Then (StartIn files start) (λ file.
    Is (Ok (ToServe capture file.start connections port)))

-- the report in a folder is to be registered under this name
abbrev pub RegisterIn : FileMap → List ℕ → List ℕ → Result Task Refusal → Type 0
RegisterIn files out run =
    Then (Is (file_in files file_limit (report_name out))) (λ bytes.
    Then (ReportOf (report_name out) bytes) (λ report.
    Is (Ok (ToKeep (errand.Register run bytes report)))))

abbrev pub PageIn : FileMap → List ℕ → List ℕ → Result Task Refusal → Type 0
PageIn files capture out =
    Then (TogetherIn files capture out) (λ t.
    Is (Ok (ToPage (page_of capture out t) (length t.legal.calls) (length t.left.run.report.lines))))

abbrev pub ShowIn : FileMap → List ℕ → List ℕ → Option ℕ → Result Task Refusal → Type 0
ShowIn files capture out stamp =
    Then (TogetherIn files capture out) (λ t.
    Then (Is (stamp_in stamp t.legal.calls)) (λ one.
    Is (Ok (ToShow (shown_of t) stamp))))

abbrev pub Decides : Command → FileMap → Result Task Refusal → Type 0
Decides (Run capture out ways) files = RunIn files capture out ways
Decides (Prepare capture out) files = PrepareIn files capture out
Decides (Serve capture start connections port) files = ServeIn files capture start connections port
Decides (Generate n out) files = Is (Ok (ToMake n out))
Decides (Trial n) files = Is (Ok (ToTry n))
Decides (Register out run) files = RegisterIn files out run
Decides Runs files = Is (Ok (ToKeep errand.Runs))
Decides (Accept run stamp class) files = Is (Ok (ToKeep (errand.Accept run stamp class)))
Decides (Compare base other) files = Is (Ok (ToKeep (errand.Compare base other)))
Decides (Page capture out) files = PageIn files capture out
Decides (Show capture out stamp) files = ShowIn files capture out stamp

-- ---- by the words alone

-- the name is that of a file of the capture in a folder: of its start, or of one of the sessions that there may be
abbrev pub IsFileIn : List ℕ → List ℕ → Type 0
IsFileIn folder name = (name ≡ start_name folder) ⊎ ((session : ℕ) × (session < session_limit) × (name ≡ session_name folder session))

-- the line of this number is the first bad one of some file of a capture
abbrev pub IsBadOfSome : ℕ → Type 0
IsBadOfSome line = (bytes : List ℕ) × (IsBadStart bytes line ⊎ ((session : ℕ) × (version : ℕ) × IsVersion version × IsBadSession session version bytes line))

-- how the capture in a folder may be refused, whatever its files are: by one that is not there or too long, by a first bad line, or
-- by the cause that the tests give for some calls
abbrev pub MayRefuseCapture : List ℕ → Refusal → Type 0
MayRefuseCapture folder (Missing name) = IsFileIn folder name
MayRefuseCapture folder (TooLong name) = IsFileIn folder name
MayRefuseCapture folder (BadLine name line) = IsFileIn folder name × IsBadOfSome line
MayRefuseCapture folder (BadReport name line) = ⊥
MayRefuseCapture folder (BadRemap row) = ⊥
MayRefuseCapture folder (BadChange row) = ⊥
MayRefuseCapture folder (Unshown cause) = ⊥
MayRefuseCapture folder (NotLegal cause) = (start : StartView) × (lists : List (List Captured)) × (verdict start lists ≡ Err cause)

-- how the remap file may be, if one is named
abbrev pub MayRefuseRemap : Option (List ℕ) → Refusal → Type 0
MayRefuseRemap (Some name) (Missing other) = other ≡ name
MayRefuseRemap (Some name) (TooLong other) = other ≡ name
MayRefuseRemap (Some name) (BadRemap row) = (bytes : List ℕ) × (remap_of (services_of bytes) ≡ Err (BadRemap row))
MayRefuseRemap named other = ⊥

-- how the change file may be, if one is named
abbrev pub MayRefuseChange : Option (List ℕ) → Refusal → Type 0
MayRefuseChange (Some name) (Missing other) = other ≡ name
MayRefuseChange (Some name) (TooLong other) = other ≡ name
MayRefuseChange (Some name) (BadChange row) = (start : StartView) × (bytes : List ℕ) × IsFirstBad start (records_in bytes) row
MayRefuseChange named other = ⊥

-- how the file of a start may be
abbrev pub MayRefuseStart : List ℕ → Refusal → Type 0
MayRefuseStart name (Missing other) = other ≡ name
MayRefuseStart name (TooLong other) = other ≡ name
MayRefuseStart name (BadLine other line) = (other ≡ name) × ((bytes : List ℕ) × IsBadStart bytes line)
MayRefuseStart name refusal = ⊥

-- how the file of a report may be
abbrev pub MayRefuseReport : List ℕ → Refusal → Type 0
MayRefuseReport name (Missing other) = other ≡ name
MayRefuseReport name (TooLong other) = other ≡ name
MayRefuseReport name (BadReport other line) = (other ≡ name) × ((bytes : List ℕ) × IsBadReport bytes line)
MayRefuseReport name refusal = ⊥

-- the name is that of a file that each run leaves in a folder
abbrev pub IsNeededIn : List ℕ → List ℕ → Type 0
IsNeededIn out name = (name ≡ journal_name out) ⊎ (name ≡ report_name out)

-- or of one that some runs leave
abbrev pub IsLeftIn : List ℕ → List ℕ → Type 0
IsLeftIn out name = IsNeededIn out name ⊎ ((name ≡ causes_name out) ⊎ (name ≡ fence_name out))

-- something in which some run does not go together with some calls, or bytes that are the causes of no lines of some report
abbrev pub MayMisfit : Misfit → Type 0
MayMisfit found = ((calls : List Captured) × (run : RunView) × (misfit_of calls run ≡ Some found))
    ⊎ ((found ≡ misfit.Causes) × (lines : List Line) × (bytes : List ℕ) × ((causes : List CauseLine) → ¬ AreCausesFor lines bytes causes))

-- how what is to be shown may be refused beside its files: by a first bad line of the journal or of the plain reads, by something in
-- which a run does not go together with a capture, or by a stamp that was said
abbrev pub MayNotShow : List ℕ → Option ℕ → NotShown → Type 0
MayNotShow out stamp (unshown.BadJournal name line) = (name ≡ journal_name out) × ((bytes : List ℕ) × IsBadJournal bytes line)
MayNotShow out stamp (unshown.BadReads name line) = (name ≡ fence_name out) × ((bytes : List ℕ) × IsBadReads bytes line)
MayNotShow out stamp (unshown.Unfit found) = MayMisfit found
MayNotShow out stamp (unshown.NoCall k) = stamp ≡ Some k

-- how the files of a run may be, and their calls
abbrev pub MayRefuseLeft : List ℕ → Option ℕ → Refusal → Type 0
MayRefuseLeft out stamp (Missing name) = IsNeededIn out name
MayRefuseLeft out stamp (TooLong name) = IsLeftIn out name
MayRefuseLeft out stamp (BadReport name line) = (name ≡ report_name out) × ((bytes : List ℕ) × IsBadReport bytes line)
MayRefuseLeft out stamp (Unshown cause) = MayNotShow out stamp cause
MayRefuseLeft out stamp other = ⊥

-- how a command may be
abbrev pub MayBeRefused : Command → Refusal → Type 0
MayBeRefused (Run capture out ways) refusal = MayRefuseCapture capture refusal ⊎ (MayRefuseRemap ways.remap refusal ⊎ MayRefuseChange ways.change refusal)
MayBeRefused (Prepare capture out) refusal = MayRefuseCapture capture refusal
MayBeRefused (Serve capture start connections port) refusal = MayRefuseStart start refusal
MayBeRefused (Generate n out) refusal = ⊥
MayBeRefused (Trial n) refusal = ⊥
MayBeRefused (Register out run) refusal = MayRefuseReport (report_name out) refusal
MayBeRefused Runs refusal = ⊥
MayBeRefused (Accept run stamp class) refusal = ⊥
MayBeRefused (Compare base other) refusal = ⊥
MayBeRefused (Page capture out) refusal = MayRefuseCapture capture refusal ⊎ MayRefuseLeft out None refusal
MayBeRefused (Show capture out stamp) refusal = MayRefuseCapture capture refusal ⊎ MayRefuseLeft out stamp refusal

-- the errand is one of this command: that of registering some report, and so on
abbrev pub IsErrandOf : Command → Errand → Type 0
IsErrandOf (Register out run) (errand.Register name bytes report) = (name ≡ run) × IsReport bytes report
IsErrandOf Runs errand.Runs = Unit {0}
IsErrandOf (Accept run stamp class) (errand.Accept name call kind) = (name ≡ run) × (call ≡ stamp) × (kind ≡ class)
IsErrandOf (Compare base other) (errand.Compare a b) = (a ≡ base) × (b ≡ other)
IsErrandOf command other = ⊥

-- a capture that the tests take: what they give of some calls
abbrev pub MayBeTaken : Legal → Type 0
MayBeTaken legal = (start : StartView) × (lists : List (List Captured)) × (legal_from start (verdict start lists) ≡ Ok legal)

-- it is some capture that the tests take, and what the files of a run say goes together with it
abbrev pub MayBeTogether : Together → Type 0
MayBeTogether t = MayBeTaken t.legal × (misfit_of t.legal.calls t.left.run ≡ None)

-- the job is a replay of some capture that the tests take, in these ways on what it may run on
abbrev pub IsRunOf : Ways → JobView → Type 0
IsRunOf ways job = (legal : Legal) × (target : StartView) × (remap : List ServicePair) × MayBeTaken legal × MayRunOn ways.change legal.start target × MaySend ways.remap remap × (job ≡ run_job legal target remap ways)

-- some start file spells this start
abbrev pub IsSpelled : StartView → Type 0
IsSpelled start = (bytes : List ℕ) × (sessions : ℕ) × IsStartFile bytes (record { start = start; sessions = sessions })

-- the task is one of this command: such a replay, into this folder, and so on
abbrev pub IsTaskOf : Command → Task → Type 0
IsTaskOf (Run capture out ways) (ToReplay folder job) = (folder ≡ out) × (ways.target ≡ None) × IsRunOf ways job
IsTaskOf (Run capture out ways) (ToSend folder job port) = (folder ≡ out) × (ways.target ≡ Some port) × IsRunOf ways job
IsTaskOf (Prepare capture out) (ToTell folder facts) = (folder ≡ out) × ((legal : Legal) × MayBeTaken legal × (facts ≡ legal.facts))
IsTaskOf (Serve capture start connections port) (ToServe folder begins most door) = (folder ≡ capture) × (most ≡ connections) × (door ≡ port) × IsSpelled begins
IsTaskOf (Generate n out) (ToMake calls folder) = (calls ≡ n) × (folder ≡ out)
IsTaskOf (Trial n) (ToTry calls) = calls ≡ n
IsTaskOf (Register out run) (ToKeep asked) = IsErrandOf (Register out run) asked
IsTaskOf Runs (ToKeep asked) = IsErrandOf Runs asked
IsTaskOf (Accept run stamp class) (ToKeep asked) = IsErrandOf (Accept run stamp class) asked
IsTaskOf (Compare base other) (ToKeep asked) = IsErrandOf (Compare base other) asked
IsTaskOf (Page capture out) (ToPage page calls divergent) =
    (t : Together) × MayBeTogether t × (page ≡ page_of capture out t) × (calls ≡ length t.legal.calls) × (divergent ≡ length t.left.run.report.lines)
IsTaskOf (Show capture out stamp) (ToShow view asked) = (asked ≡ stamp) × ((t : Together) × MayBeTogether t × (view ≡ shown_of t))
IsTaskOf command other = ⊥

-- ---- by the words and the files

-- a refusal as the failure that it is
abbrev pub Failing : {X : Type 0} → (Result X Refusal → Type 0) → Result X Failure → Type 0
Failing want (Ok x) = want (Ok x)
Failing want (Err BadCommand) = ⊥
Failing want (Err (Refused refusal)) = want (Err refusal)
Failing want (Err (Differs finding)) = ⊥
Failing want (Err (NotDone cause)) = ⊥
Failing want (Err (NotSent cause)) = ⊥
Failing want (Err DeviceFault) = ⊥
Failing want (Err OutOfMemory) = ⊥

abbrev pub VerdictOf : Option Command → FileMap → Result Task Failure → Type 0
VerdictOf None files verdict = verdict ≡ Err BadCommand
VerdictOf (Some command) files verdict = Failing (Decides command files) verdict

-- what the words and the files come to
abbrev pub Verdict : List (List ℕ) → FileMap → Result Task Failure → Type 0
Verdict words files verdict = VerdictOf (command_of words) files verdict
