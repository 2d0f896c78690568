-- What was written of a replay, as the register of runs reads it.
use Rattle.std.specs.Prelude.{◌≡◌, ◌≤◌, List, length, ℕ, Some, Ok}
use Rattle.std.specs.FinMap.{get}
use Rattle.desk_values.specs.declared.capture.Event.{Event}
use Rattle.desk_files.specs.Limits.{file_limit}
use Rattle.desk_files.specs.Outside.{FileMap}
use Rattle.desk_files.specs.Writes.{with_all}
use Rattle.desk_words.specs.declared.words.Command.TheVariants.{Register}
use Rattle.desk_words.specs.Command.{command_of}
use Rattle.replay_history.specs.declared.report.Report.{Report}
use Rattle.replay_history.specs.Texts.{report_text}
use Rattle.replay_job.specs.Job.{JobView}
use Rattle.replay_job.specs.Replays.{IsSoundJob}
use Rattle.replay_job.specs.Runs.{Stage}
use Rattle.replay_report.specs.Report.{heard_report_in, report_in}
use Rattle.remote_desk.specs.History.{plain}
use Rattle.report_format.specs.ReportFile.{IsReport, IsWhole}
use Rattle.register_work.specs.declared.errand.Errand.TheVariants as errand
use Rattle.replay_cli.specs.declared.plan.Plan.{Plan}
use Rattle.replay_cli.specs.Decision.{ToKeep, Verdict}
use Rattle.replay_cli.specs.Done.{IsDoneBy, IsReplayOf, IsSent}
use Rattle.replay_cli.specs.FileNames.{report_name}
use Rattle.replay_cli.specs.Hosting.{Dialling}

-- the text of a replay's report is that of a report
abbrev pub ReportsAreWhole : Type 0
ReportsAreWhole = (job : JobView) (history : List Event) (last : Stage)
    → IsSoundJob job → IsReplayOf job history last → IsReport (report_text (report_in job history)) (report_in job history)

-- the text of a report is within the limit of a file
abbrev pub ReportsAreSmall : Type 0
ReportsAreSmall = (report : Report) → IsWhole report → length (report_text report) ≤ file_limit

-- so wherever it stands as it was written, it is to be registered, and told neither as a bad report nor as too long
abbrev pub WrittenReportsAreRegistered : Type 0
WrittenReportsAreRegistered = (words : List (List ℕ)) (files : FileMap) (out run : List ℕ) (job : JobView) (history : List Event) (last : Stage)
    → command_of words ≡ Some (Register out run) → IsSoundJob job → IsReplayOf job history last
    → get files (report_name out) ≡ Some (report_text (report_in job history))
    → Verdict words files (Ok (ToKeep (errand.Register run (report_text (report_in job history)) (report_in job history))))

-- and so behind the run that wrote it
abbrev pub RunsAreRegistered : Type 0
RunsAreRegistered = (words : List (List ℕ)) (files : FileMap) (out run : List ℕ) (job : JobView) (plan : Plan) (history : List Event) (last : Stage)
    → command_of words ≡ Some (Register out run) → IsSoundJob job → IsDoneBy out job plan history last
    → Verdict words (with_all plan.writes files) (Ok (ToKeep (errand.Register run (report_text (report_in job history)) (report_in job history))))

-- and so behind a replay against another server
abbrev pub SentReportsAreRegistered : Type 0
SentReportsAreRegistered = (words : List (List ℕ)) (files : FileMap) (out run : List ℕ) (job : JobView) (plan : Plan) (dial : Dialling) (sent : IsSent out job plan dial)
    → command_of words ≡ Some (Register out run) → IsSoundJob job
    → Verdict words (with_all plan.writes files)
    (Ok (ToKeep (errand.Register run (report_text (heard_report_in job (plain sent.events))) (heard_report_in job (plain sent.events)))))
