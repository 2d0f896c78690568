-- What each task comes to: its files and its line.
use Rattle.std.specs.Prelude.{◌≡◌, ℕ, ◌+◌, false, nat_lt, List, [], ◌∷◌, ◌++◌, drop, length, map, slice_get, Option, None, Some}
use Rattle.std.specs.Option.{option_map}
use Rattle.std.specs.List.{AllByRecursion}
use Rattle.desk_values.specs.declared.capture.Captured.{Captured}
use Rattle.desk_values.specs.declared.capture.Event.{Event}
use Rattle.desk_files.specs.declared.writes.Write.{Write}
use Rattle.desk_schema.specs.Start.{StartView}
use Rattle.capture_format.specs.StartFile.{IsStartFile, start_text}
use Rattle.capture_format.specs.SessionFile.{session_text}
use Rattle.captured_calls.specs.Facts.{facts_of}
use Rattle.captured_calls.specs.Verdict.{IsLegal}
use Rattle.replay_history.specs.declared.mode.Mode.TheVariants.{Order, Fence}
use Rattle.replay_history.specs.Capture.{commits_in}
use Rattle.replay_history.specs.Texts.{journal_text, report_text, tables_text}
use Rattle.object_depends.specs.Csv.{requires_text}
use Rattle.remap_ids.specs.MapsText.{maps_text}
use Rattle.replay_job.specs.Events.{IsEvent}
use Rattle.replay_job.specs.Job.{HasMoments, JobView}
use Rattle.replay_job.specs.Runs.{IsCompleteFor, Stage, end_tables, learnt_in}
use Rattle.replay_report.specs.Report.{heard_report_in, report_in}
use Rattle.replay_report.specs.Differences.{csv_text}
use Rattle.fence_law.specs.Plain.{ArePlainReads}
use Rattle.fence_law.specs.Text.{fence_text}
use Rattle.divergence_cause.specs.Causes.{AreCauses}
use Rattle.divergence_cause.specs.Text.{causes_text}
use Rattle.capture_recorder.specs.Limits.{generated_sessions}
use Rattle.capture_recorder.specs.Generated.{generated}
use Rattle.captured_calls.specs.Sessions.{session_lists}
use Rattle.replay_cli.specs.declared.plan.Plan.{Plan}
use Rattle.replay_cli.specs.declared.told.Told.{Told}
use Rattle.replay_cli.specs.Decision.{Task, ToReplay, ToSend, ToTell, ToServe, ToMake, ToTry, ToKeep, ToPage, ToShow}
use Rattle.desk_files.specs.Hosts.{Connections}
use Rattle.desk_files.specs.Outside.{Told as WhereTold, raised, risen_by}
use Rattle.remap_ids.specs.IdMap.{start_pairs}
use Rattle.replay_history.specs.History.{AnswersAll}
use Rattle.replay_lanes.specs.Sessions.{sessions}
use Rattle.remote_desk.specs.declared.event.RemoteEvent.{RemoteEvent}
use Rattle.remote_desk.specs.History.{IsRemoteHistory, pairs_behind, plain}
use Rattle.remote_desk.specs.Said.{said_in}
use Rattle.capture_serve.specs.Service.{AreReadFrom, CaptureView, IsHandedBack as IsServedBack, IsService}
use Rattle.replay_page.specs.Data.{page_text}
use Rattle.replay_show.specs.Lines.{call_lines, differing_lines}
use Rattle.replay_show.specs.Shown.{ShownView}
use Rattle.remote_target.specs.Dialled.{IsHandedBack as IsSentBack}
use Rattle.replay_cli.specs.Lines.{generated_line, paged_line, prepared_line, replayed_line, served_line, trial_line}
use Rattle.register_work.specs.declared.errand.Errand.{Errand}
use Rattle.register_work.specs.Errand.{IsAnswered}
use Rattle.register_work.specs.Keeping.{Keeping}
use Rattle.replay_cli.specs.Hosting.{Dialling, Hosting, IsDialUnasked, IsHostUnasked, IsKeeperUntouched, IsUnasked}
use Rattle.replay_job.specs.Jobs.{job_of}
use Rattle.replay_cli.specs.FileNames.{causes_name, fence_name, journal_name, maps_name, page_name, report_name, requires_name, session_name, start_name, table_of_report_name, tables_name}

-- ---- what is told of a replay beside its report

-- numbered commits wait for all calls before them, and the replay begins with the captured start
pub record IsFenced (job : JobView) : Type 0 where
  pub mode : job.mode ≡ Fence
  pub target : job.target ≡ job.start

-- where the job is fenced, the stamps of the plain reads; else none are told
abbrev pub AreReadsOf : JobView → List Event → Option (List ℕ) → Type 0
AreReadsOf job history None = ¬ IsFenced job
AreReadsOf job history (Some stamps) = IsFenced job × ArePlainReads job history stamps

-- the plain reads, and why calls differ
pub record IsToldOf (job : JobView) (history : List Event) (told : Told) : Type 0 where
  pub reads_are : AreReadsOf job history told.reads
  pub causes_are : AreCauses job history told.causes

-- ---- what is written, one file after the other

-- the files of a history, of the report on it and of what it ends in
abbrev pub history_files : List ℕ → JobView → List Event → Stage → List Write
history_files out job history last =
    record { name = journal_name out; bytes = journal_text job.mode history }
    ∷ record { name = report_name out; bytes = report_text (report_in job history) }
    ∷ record { name = table_of_report_name out; bytes = csv_text job.calls history (report_in job history).lines }
    ∷ record { name = tables_name out; bytes = tables_text (end_tables last.state) }
    ∷ record { name = maps_name out; bytes = maps_text (learnt_in job.calls history) } ∷ []

-- the file of the plain reads, where they are told
abbrev pub fence_files : List ℕ → Option (List ℕ) → List Write
fence_files out None = []
fence_files out (Some stamps) = record { name = fence_name out; bytes = fence_text stamps } ∷ []

abbrev pub told_files : List ℕ → Told → List Write
told_files out told = fence_files out told.reads ++ record { name = causes_name out; bytes = causes_text told.causes } ∷ []

abbrev pub replayed_files : List ℕ → JobView → List Event → Stage → Told → List Write
replayed_files out job history last told = history_files out job history last ++ told_files out told

-- of a replay against another server there are no tables to tell
abbrev pub sent_files : List ℕ → JobView → List RemoteEvent → List Write
sent_files out job events =
    record { name = journal_name out; bytes = journal_text job.mode (plain events) }
    ∷ record { name = report_name out; bytes = report_text (heard_report_in job (plain events)) }
    ∷ record { name = table_of_report_name out; bytes = csv_text job.calls (plain events) (heard_report_in job (plain events)).lines }
    ∷ record { name = maps_name out; bytes = maps_text (drop (length (start_pairs job.start)) (pairs_behind job events)) } ∷ []

-- the files of sessions from this number on, of this version
abbrev pub session_files : List ℕ → ℕ → ℕ → List (List Captured) → List Write
session_files out version session [] = []
session_files out version session (calls ∷ lists) = record { name = session_name out session; bytes = session_text session version calls } ∷ session_files out version (session + 1) lists

-- the generated capture of n calls: its start, its calls by stamp, and those of each of its sessions
unfoldable pub made_start : ℕ → StartView
made_start n = (generated n).start

unfoldable pub made_calls : ℕ → List Captured
made_calls n = (generated n).calls

unfoldable pub made_lists : ℕ → List (List Captured)
made_lists n = session_lists generated_sessions (made_calls n)

-- the files of a capture: those of its sessions, and then its start
abbrev pub capture_files : List ℕ → StartView → List (List Captured) → ℕ → List Write
capture_files out start lists sessions = session_files out start.schema.version 0 lists ++ record { name = start_name out; bytes = start_text start sessions } ∷ []

abbrev pub made_files : List ℕ → ℕ → List Write
made_files out n = capture_files out (made_start n) (made_lists n) generated_sessions

-- ---- each task

-- the report decides the line, and whether calls differ
pub record IsReported (job : JobView) (history : List Event) (plan : Plan) : Type 0 where
  pub line : plan.line ≡ replayed_line (length job.calls) (length (report_in job history).lines)
  pub differs : plan.differs ≡ nat_lt 0 (length (report_in job history).lines)

-- The history is legal, each call that is sent is answered as one server answers it there, and every call is answered; the server
-- and the pairs of ids come to this stage, and each event has a text.
abbrev pub IsReplayOf : JobView → List Event → Stage → Type 0
IsReplayOf job history last = IsCompleteFor job history last × AllByRecursion IsEvent history

-- the files are those of this replay
pub record IsWritten (out : List ℕ) (job : JobView) (history : List Event) (last : Stage) (writes : List Write) : Type 0 where
  pub told : Told
  pub told_is : IsToldOf job history told
  pub writes_are : writes ≡ replayed_files out job history last told

-- the line and the files are those of this replay
abbrev pub IsDoneBy : List ℕ → JobView → Plan → List Event → Stage → Type 0
IsDoneBy out job plan history last = IsReplayOf job history last × IsReported job history plan × IsWritten out job history last plan.writes

-- The history is a legal one of the captured calls with the replies that came, each call was sent once, and the report names just
-- the calls that differ. Each session with a call was dialled once, each line was given back, and on each stands what was sent in its
-- session, with what came back.
pub record IsSent (out : List ℕ) (job : JobView) (plan : Plan) (dial : Dialling) : Type 0 where
  pub events : List RemoteEvent
  pub history : IsRemoteHistory job events
  pub whole : AnswersAll job.calls (plain events)
  pub texts : AllByRecursion IsEvent (plain events)
  pub line : plan.line ≡ replayed_line (length job.calls) (length (heard_report_in job (plain events)).lines)
  pub differs : plan.differs ≡ nat_lt 0 (length (heard_report_in job (plain events)).lines)
  pub writes : plan.writes ≡ sent_files out job events
  pub lines : WhereTold dial.before (λ told. dial.after ≡ Some (told ++ map (said_in job.calls events) (sessions job.calls)))
  pub faultless : dial.counts_after.faults ≡ dial.counts_before.faults
  pub dialled : dial.counts_after.dials ≡ risen_by (length (sessions job.calls)) dial.counts_before.dials
  pub returned : dial.counts_after.backs ≡ risen_by (length (sessions job.calls)) dial.counts_before.backs

-- the job of replaying calls as they are: from their own start, in their order and without pauses
abbrev pub trial_job : StartView → List Captured → JobView
trial_job start calls = job_of start start (record { calls = calls; facts = facts_of start.schema calls }) [] Order 0 0

-- a legal capture was replayed as it is
abbrev pub IsTried : StartView → List Captured → Type 0
IsTried start calls = IsLegal start calls × HasMoments calls × ((history : List Event) × (last : Stage) × IsReplayOf (trial_job start calls) history last)

-- nothing differs
abbrev pub IsQuiet : Plan → Type 0
IsQuiet plan = plan.differs ≡ false

-- connections were served, the line and the files are those of what was captured, and each file is read as what it was written of
pub record IsServed (out : List ℕ) (start : StartView) (most : ℕ) (plan : Plan) (before after : Option Connections) : Type 0 where
  pub capture : CaptureView
  pub service : IsService start most capture before after
  pub line : plan.line ≡ served_line capture.connections capture.calls capture.short
  pub quiet : IsQuiet plan
  pub writes : plan.writes ≡ capture_files out start capture.sessions capture.connections
  pub start_read : IsStartFile (start_text start capture.connections) (record { start = start; sessions = capture.connections })
  pub sessions_read : AreReadFrom start.schema.version 0 capture.sessions

-- an errand is done: what is printed is its answer, and no file is written
abbrev pub IsKept : Errand → Keeping → Plan → Type 0
IsKept errand k plan = IsAnswered errand k (record { text = plan.line; news = plan.differs }) × (plan.writes ≡ [])

-- the lines of the calls that differ, or of the call that is asked for
abbrev pub IsShown : ShownView → Option ℕ → List ℕ → Type 0
IsShown view None lines = lines ≡ differing_lines view
IsShown view (Some stamp) lines = Some lines ≡ option_map (call_lines view) (slice_get view.calls stamp)

-- the files and the line that a task may end with which asks neither the host nor the keeper nor the dial
abbrev pub IsDoneAlone : Task → Plan → Type 0
IsDoneAlone (ToReplay out job) plan = (history : List Event) × (last : Stage) × IsDoneBy out job plan history last
IsDoneAlone (ToTell out facts) plan =
    (plan.line ≡ prepared_line (length facts)) × IsQuiet plan × (plan.writes ≡ record { name = requires_name out; bytes = requires_text facts } ∷ [])
IsDoneAlone (ToSend out job port) plan = ⊥
IsDoneAlone (ToServe out start most port) plan = ⊥
IsDoneAlone (ToKeep errand) plan = ⊥
IsDoneAlone (ToPage page calls divergent) plan =
    (plan.line ≡ paged_line calls divergent) × IsQuiet plan × (plan.writes ≡ record { name = page_name page.out; bytes = page_text page } ∷ [])
IsDoneAlone (ToShow view asked) plan = IsShown view asked plan.line × IsQuiet plan × (plan.writes ≡ [])
IsDoneAlone (ToMake n out) plan = (plan.line ≡ generated_line n) × IsQuiet plan × (plan.writes ≡ made_files out n)
IsDoneAlone (ToTry n) plan =
    (plan.line ≡ trial_line n (length (made_calls n)) (commits_in (made_calls n)))
    × IsTried (made_start n) (made_calls n) × IsQuiet plan × (plan.writes ≡ [])

-- What a task had of the host and of the dial it gave back, the port that it asked for last is its own, and the keeper that it asked was
-- closed once, whatever came of it; one that it did not ask was not closed. The two counts are those of closing.
abbrev pub HandsBack : Task → Hosting → ℕ → ℕ → Type 0
HandsBack (ToServe out start most port) h closes closes' = IsServedBack most port h.handed_before h.handed_after × (closes' ≡ closes)
HandsBack (ToSend out job port) h closes closes' = IsSentBack job.calls port h.dial.counts_before h.dial.counts_after × (closes' ≡ closes)
HandsBack (ToKeep errand) h closes closes' = closes' ≡ raised closes
HandsBack other h closes closes' = closes' ≡ closes

-- the files and the line that a task may end with, and what it leaves of the host, of the keeper and of the dial
abbrev pub IsDone : Task → Plan → Hosting → Type 0
IsDone (ToSend out job port) plan h = IsSent out job plan h.dial × IsHostUnasked h × IsKeeperUntouched h
IsDone (ToServe out start most port) plan h = IsServed out start most plan h.before h.after × IsKeeperUntouched h × IsDialUnasked h
IsDone (ToKeep errand) plan h = IsKept errand h.keeper plan × IsHostUnasked h × IsDialUnasked h
IsDone task plan h = IsDoneAlone task plan × IsUnasked h
