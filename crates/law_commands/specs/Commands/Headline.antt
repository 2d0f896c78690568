-- The headline, from its beginning to its end: what stands behind a `run` without a target that ended with 0 or 1.
use Rattle.std.specs.Prelude.{◌≡◌, ◌≢◌, ◌↔◌, ◌⊎◌, ℕ, List, [], length, Option, None, Some, Ok}
use Rattle.desk_values.specs.declared.call.Reply.{Reply}
use Rattle.desk_values.specs.declared.capture.Captured.{Captured}
use Rattle.desk_values.specs.declared.capture.Event.{Event}
use Rattle.server_words.specs.State.{State}
use Rattle.desk_files.specs.Outside.{Appends, FileMap}
use Rattle.desk_files.specs.Writes.{with_all}
use Rattle.desk_words.specs.declared.ways.Ways.{Ways}
use Rattle.desk_words.specs.declared.words.Command.TheVariants.{Run}
use Rattle.desk_words.specs.Command.{command_of}
use Rattle.captured_calls.specs.Stamps.{all_calls, by_stamp}
use Rattle.captured_calls.specs.Verdict.{IsLegal}
use Rattle.replay_history.specs.declared.report.Class.TheVariants.{Same}
use Rattle.replay_history.specs.Gap.{IsCallAt}
use Rattle.replay_job.specs.Job.{JobView}
use Rattle.replay_job.specs.Runs.{Stage, end_tables}
use Rattle.replay_report.specs.Report.{report_in}
use Rattle.law_replays.specs.End.Answers.{HasNoWriteDivergence, IsAnsweredAt, WaitsForCommits, class_after}
use Rattle.law_replays.specs.End.Laws.{IsAnsweredOnce}
use Rattle.law_replays.specs.End.Tables.{AreCarried, CameTo}
use Rattle.law_replays.specs.Reports.Laws.{IsNamed}
use Rattle.replay_cli.specs.declared.told.Told.{Told}
use Rattle.replay_cli.specs.Decision.{Read, ReadIn, RemapIn, TargetIn, Verdict}
use Rattle.replay_cli.specs.Done.{IsReplayOf, IsToldOf, replayed_files}
use Rattle.replay_cli.specs.Ending.{EndsSo}
use Rattle.replay_cli.specs.Hosting.{Hosting}
use Rattle.replay_cli.specs.Lines.{replayed_line}

-- The job is that of the capture in the folder, which is a legal one by stamp: with the start, the calls and the services of the files, on the
-- captured start or on what the change file makes of it, and in the ways of the words.
pub record IsJobOf (files : FileMap) (folder : List ℕ) (ways : Ways) (job : JobView) : Type 0 where
  pub read : Read
  pub is_read : ReadIn files folder (Ok read)
  pub start : job.start ≡ read.start
  pub calls : job.calls ≡ by_stamp (all_calls read.sessions)
  pub legal : IsLegal job.start job.calls
  pub services : RemapIn files ways.remap (Ok job.remap)
  pub target : TargetIn files job.start ways.change (Ok job.target)
  pub mode : job.mode ≡ ways.mode
  pub think : job.think ≡ ways.think
  pub connect : job.connect ≡ ways.connect

-- The files of the history are written, and no other is changed: the journal of the history, the report that it has, the tables that it came
-- to, the pairs of ids that were learnt, and what is told beside. The status is 0 just where the report names no call, and the line says how
-- many it names.
pub record AreFilesOf (files after : FileMap) (out : List ℕ) (job : JobView) (history : List Event) (last : Stage) (result : ℕ) (before printed : Option (List ℕ)) : Type 0 where
  pub told : Told
  pub is_told : IsToldOf job history told
  pub written : after ≡ with_all (replayed_files out job history last told) files
  pub status : (result ≡ 0) ↔ ((report_in job history).lines ≡ [])
  pub line : Appends (replayed_line (length job.calls) (length (report_in job history).lines)) before printed

-- The files are a legal capture. The history is one in which each call is answered, once and as one server on a single thread answers it there;
-- the report names just the calls whose answers differ under the ids so far; and where calls wait for commits and none differs, the tables are
-- the captured ones, each row number and each id replaced.
pub record KeepsPromise (files after : FileMap) (folder out : List ℕ) (ways : Ways) (result : ℕ) (before printed : Option (List ℕ)) : Type 0 where
  pub job : JobView
  pub is_job : IsJobOf files folder ways job
  pub history : List Event
  pub last : Stage
  pub replay : IsReplayOf job history last
  pub once : (k : ℕ) (call : Captured) → IsCallAt job.calls k call → IsAnsweredOnce job history k call
  pub named : (i k : ℕ) (call : Captured) (reply : Reply) (before after : Stage)
      → IsAnsweredAt job history i k call reply before after → IsNamed job history k ↔ (class_after after call reply ≢ Same)
  pub are_files : AreFilesOf files after out job history last result before printed
  pub carried : WaitsForCommits job.mode → HasNoWriteDivergence job history
      → (captured : State) → CameTo job captured → AreCarried last.pairs (end_tables captured) (end_tables last.state)

-- by the words, by how the command ended and by its status alone
abbrev pub RunsKeepThePromise : Type 0
RunsKeepThePromise = (words : List (List ℕ)) (files after : FileMap) (folder out : List ℕ) (ways : Ways)
    (faults_before faults_after : ℕ) (h : Hosting) (result : ℕ) (before printed : Option (List ℕ))
    → command_of words ≡ Some (Run folder out ways) → ways.target ≡ None
    → EndsSo (Verdict words files) files after faults_before faults_after h result before printed
    → (result ≡ 0) ⊎ (result ≡ 1) → KeepsPromise files after folder out ways result before printed
