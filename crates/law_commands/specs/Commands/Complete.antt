-- When the files of a folder are a capture, told without the steps of a command.
use Rattle.std.specs.Prelude.{◌≡◌, ◌≢◌, ℕ, ◌+◌, ◌≤◌, ◌⊎◌, List, [], ◌∷◌, length, Option, None, Some, Result, Ok}
use Rattle.std.specs.FinMap.{get}
use Rattle.std.specs.List.{sum_by}
use Rattle.desk_values.specs.declared.capture.Captured.{Captured}
use Rattle.desk_files.specs.Outside.{FileMap, HasRisen}
use Rattle.desk_files.specs.Limits.{file_limit}
use Rattle.replay_cli.specs.Limits.{capture_limit}
use Rattle.capture_format.specs.declared.start.StartFile.{StartFile}
use Rattle.capture_format.specs.StartFile.{IsStartFile}
use Rattle.capture_format.specs.SessionFile.{IsSessionFile}
use Rattle.prepare_plan.specs.Lists.{all_calls, by_stamp}
use Rattle.captured_calls.specs.Verdict.{CanBeLegal, Preparation, verdict}
use Rattle.captured_calls.specs.Facts.{facts_of}
use Rattle.remap_ids.specs.Services.{ServicePair, services_of}
use Rattle.desk_schema.specs.Start.{StartView}
use Rattle.desk_schema.specs.Change.{ChangesTo, records_in}
use Rattle.desk_words.specs.declared.ways.Ways.{Ways}
use Rattle.desk_words.specs.declared.words.Command.{Command}
use Rattle.desk_words.specs.declared.words.Command.TheVariants.{Run, Prepare, Serve, Generate, Trial, Register, Runs, Accept, Compare}
use Rattle.desk_words.specs.Command.{command_of}
use Rattle.replay_history.specs.declared.report.Class.{Class}
use Rattle.replay_history.specs.declared.report.Report.{Report}
use Rattle.report_format.specs.ReportFile.{IsReport}
use Rattle.run_register.specs.Register.{RunMap}
use Rattle.register_work.specs.declared.errand.Errand.{Errand}
use Rattle.register_work.specs.declared.errand.Errand.TheVariants as errand
use Rattle.register_work.specs.Errand.{AreGood}
use Rattle.replay_cli.specs.declared.failure.Failure.{Failure}
use Rattle.replay_cli.specs.declared.plan.Plan.{Plan}
use Rattle.replay_job.specs.Job.{JobView}
use Rattle.replay_cli.specs.Decision.{Verdict, ToSend, ToTell, ToServe, ToMake, ToTry, ToKeep, run_job, run_task}
use Rattle.replay_cli.specs.Ending.{Ends, MayComeTo}
use Rattle.replay_cli.specs.FileNames.{report_name, session_names, start_name}
use Rattle.replay_cli.specs.Hosting.{Hosting}

-- the file of this name is there, with these bytes, and within the limit of one file
abbrev pub IsThere : FileMap → List ℕ → List ℕ → Type 0
IsThere files name bytes = (get files name ≡ Some bytes) × (length bytes ≤ file_limit)

-- the files of these names are those of the sessions from this one on, of this version, with these calls
abbrev pub AreThere : FileMap → ℕ → ℕ → List (List ℕ) → List (List ℕ) → List (List Captured) → Type 0
AreThere files version session [] [] [] = Unit {0}
AreThere files version session (name ∷ names) (bytes ∷ texts) (calls ∷ lists) = IsThere files name bytes
    × IsSessionFile session version bytes calls × AreThere files version (session + 1) names texts lists
AreThere files version session names texts lists = ⊥

-- how many bytes the texts have together
abbrev pub total : List (List ℕ) → ℕ
total texts = sum_by (λ bytes. length bytes) texts

-- the files of a folder are this start and these calls of its sessions
pub record AreCapture (files : FileMap) (folder : List ℕ) (file : StartFile) (lists : List (List Captured)) : Type 0 where
  pub bytes : List ℕ
  pub texts : List (List ℕ)
  pub there : IsThere files (start_name folder) bytes
  pub start : IsStartFile bytes file
  pub sessions : AreThere files file.start.schema.version 0 (session_names folder file.sessions) texts lists
  pub together : length bytes + total texts ≤ capture_limit

-- the remap file is there and says these services; or none is named, and there are none
abbrev pub HasRemap : FileMap → Option (List ℕ) → List ServicePair → Type 0
HasRemap files None services = services ≡ []
HasRemap files (Some name) services = (bytes : List ℕ) × IsThere files name bytes × (services_of bytes ≡ Ok services)

-- the change file is there and makes this target of the captured start; or none is named, and it is that start
abbrev pub HasTarget : FileMap → Option (List ℕ) → StartView → StartView → Type 0
HasTarget files None start target = target ≡ start
HasTarget files (Some name) start target = (bytes : List ℕ) × IsThere files name bytes × ChangesTo start (records_in bytes) target

abbrev pub CapturesAreReplayed : Type 0
CapturesAreReplayed = (words : List (List ℕ)) (files : FileMap) (folder out : List ℕ) (ways : Ways)
    (file : StartFile) (lists : List (List Captured)) (services : List ServicePair) (target : StartView) (plan : Preparation)
    → command_of words ≡ Some (Run folder out ways) → AreCapture files folder file lists
    → HasRemap files ways.remap services → HasTarget files ways.change file.start target → verdict file.start lists ≡ Ok plan
    → Verdict words files
    (Ok (run_task out (run_job (record { start = file.start; calls = plan.calls; facts = plan.facts }) target services ways) ways.target))

abbrev pub CapturesArePrepared : Type 0
CapturesArePrepared =
    (words : List (List ℕ)) (files : FileMap) (folder out : List ℕ) (file : StartFile) (lists : List (List Captured)) (plan : Preparation)
    → command_of words ≡ Some (Prepare folder out) → AreCapture files folder file lists → verdict file.start lists ≡ Ok plan
    → Verdict words files (Ok (ToTell out plan.facts))

-- where some order of the calls is a legal capture, they are replayed, by stamp
abbrev pub LegalCapturesAreReplayed : Type 0
LegalCapturesAreReplayed = (words : List (List ℕ)) (files : FileMap) (folder out : List ℕ) (ways : Ways)
    (file : StartFile) (lists : List (List Captured)) (services : List ServicePair) (target : StartView)
    → command_of words ≡ Some (Run folder out ways) → AreCapture files folder file lists
    → HasRemap files ways.remap services → HasTarget files ways.change file.start target → CanBeLegal file.start (all_calls lists)
    → let calls = by_stamp (all_calls lists) in
    Verdict words files
    (Ok (run_task out (run_job (record { start = file.start; calls = calls; facts = facts_of file.start.schema calls }) target services ways) ways.target))

-- and which wait for which is told
abbrev pub LegalCapturesArePrepared : Type 0
LegalCapturesArePrepared =
    (words : List (List ℕ)) (files : FileMap) (folder out : List ℕ) (file : StartFile) (lists : List (List Captured))
    → command_of words ≡ Some (Prepare folder out) → AreCapture files folder file lists → CanBeLegal file.start (all_calls lists)
    → Verdict words files (Ok (ToTell out (facts_of file.start.schema (by_stamp (all_calls lists)))))

-- where the file of the start is there and is one, its start is served
abbrev pub StartsAreServed : Type 0
StartsAreServed = (words : List (List ℕ)) (files : FileMap) (folder name bytes : List ℕ) (connections port : ℕ) (file : StartFile)
    → command_of words ≡ Some (Serve folder name connections port) → IsThere files name bytes → IsStartFile bytes file
    → Verdict words files (Ok (ToServe folder file.start connections port))

-- words alone say that a capture is made, and that it is tried
abbrev pub CapturesAreMade : Type 0
CapturesAreMade = (words : List (List ℕ)) (files : FileMap) (calls : ℕ) (out : List ℕ)
    → command_of words ≡ Some (Generate calls out) → Verdict words files (Ok (ToMake calls out))

abbrev pub CapturesAreTried : Type 0
CapturesAreTried = (words : List (List ℕ)) (files : FileMap) (calls : ℕ) → command_of words ≡ Some (Trial calls) → Verdict words files (Ok (ToTry calls))

-- where the report in the folder is there and is one, it is to be registered
abbrev pub ReportsAreRegistered : Type 0
ReportsAreRegistered = (words : List (List ℕ)) (files : FileMap) (out run bytes : List ℕ) (report : Report)
    → command_of words ≡ Some (Register out run) → IsThere files (report_name out) bytes → IsReport bytes report
    → Verdict words files (Ok (ToKeep (errand.Register run bytes report)))

-- words alone say that runs are listed, that a divergence is accepted, and that two runs are compared
abbrev pub RunsAreListed : Type 0
RunsAreListed = (words : List (List ℕ)) (files : FileMap) → command_of words ≡ Some Runs → Verdict words files (Ok (ToKeep errand.Runs))

abbrev pub DivergencesAreAccepted : Type 0
DivergencesAreAccepted = (words : List (List ℕ)) (files : FileMap) (run : List ℕ) (stamp : ℕ) (class : Class)
    → command_of words ≡ Some (Accept run stamp class) → Verdict words files (Ok (ToKeep (errand.Accept run stamp class)))

abbrev pub RunsAreCompared : Type 0
RunsAreCompared = (words : List (List ℕ)) (files : FileMap) (base other : List ℕ)
    → command_of words ≡ Some (Compare base other) → Verdict words files (Ok (ToKeep (errand.Compare base other)))

-- the keeper tells its runs, and all of them are reports
abbrev pub TellsReports : Hosting → Type 0
TellsReports h = (runs : RunMap) × (h.keeper.runs_before ≡ Some runs) × AreGood runs

-- how an errand to it may end, where no device fails
abbrev pub MayEnd : Errand → ℕ → Type 0
MayEnd (errand.Register name bytes report) n = (n ≡ 0) ⊎ ((n ≡ 6) ⊎ (n ≡ 12))
MayEnd errand.Runs n = (n ≡ 0) ⊎ (n ≡ 6)
MayEnd (errand.Accept name stamp class) n = (n ≡ 0) ⊎ ((n ≡ 6) ⊎ ((n ≡ 11) ⊎ (n ≡ 14)))
MayEnd (errand.Compare a b) n = (n ≡ 0) ⊎ ((n ≡ 1) ⊎ ((n ≡ 6) ⊎ ((n ≡ 11) ⊎ (n ≡ 15))))

abbrev pub ErrandsEndSo : Type 0
ErrandsEndSo = (asked : Errand) (files after : FileMap) (fb fa : ℕ) (h : Hosting) (result : ℕ) (before printed : Option (List ℕ))
    → TellsReports h → Ends (Ok (ToKeep asked)) files after fb fa h result before printed → result ≢ 5 → MayEnd asked result

-- how a replay against another server may end, where neither a device nor a line fails
abbrev pub MayEndSent : ℕ → Type 0
MayEndSent n = (n ≡ 0) ⊎ ((n ≡ 1) ⊎ ((n ≡ 6) ⊎ (n ≡ 9)))

abbrev pub SentRunsEndSo : Type 0
SentRunsEndSo = (out : List ℕ) (job : JobView) (port : ℕ) (files after : FileMap) (fb fa : ℕ) (h : Hosting) (result : ℕ) (before printed : Option (List ℕ))
    → ¬ HasRisen h.dial.counts_before.faults h.dial.counts_after.faults → Ends (Ok (ToSend out job port)) files after fb fa h result before printed → result ≢ 5 → MayEndSent result

-- whatever a command comes to, a register of reports stays one
abbrev pub RegistersStayGood : Type 0
RegistersStayGood = (command : Option Command) (h : Hosting) (done : Result Plan Failure)
    → TellsReports h → MayComeTo command h done → (runs : RunMap) × (h.keeper.runs_after ≡ Some runs) × AreGood runs
