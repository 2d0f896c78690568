-- The laws of reports.
use Rattle.std.specs.Prelude.{◌≡◌, ◌≢◌, ◌↔◌, ℕ, ◌==◌, if◌then◌else◌, List, [], length, map, Some}
use Rattle.std.specs.List.{Contains}
use Rattle.desk_values.specs.declared.call.Reply.{Reply}
use Rattle.desk_values.specs.declared.capture.Captured.{Captured}
use Rattle.desk_values.specs.declared.capture.Event.{Event}
use Rattle.server_words.specs.State.{State}
use Rattle.replay_history.specs.declared.report.Class.TheVariants.{Same}
use Rattle.replay_history.specs.declared.report.Line.{Line}
use Rattle.replay_history.specs.declared.report.Report.{Report}
use Rattle.replay_history.specs.Class.{all_classes, class_number}
use Rattle.id_pairs.specs.Pairs.{HasNoIdTwice}
use Rattle.replay_job.specs.Job.{IsReplayable, JobView}
use Rattle.replay_job.specs.Runs.{IsLegalFor, IsTruthfulFor, Stage}
use Rattle.law_replays.specs.End.Answers.{HasNoWriteDivergence, IsAgain, IsAnsweredAt, IsReplay, class_after}
use Rattle.law_replays.specs.End.Twins.{CameBefore, IsTwinCall}
use Rattle.replay_report.specs.Report.{class_of, pairs_after, report_in}

-- however far a replay has come, no id of the pairs so far stands twice on one side
abbrev pub PairsAreOnce : Type 0
PairsAreOnce = (job : JobView) (history : List Event) (last : Stage) → IsReplayable job → IsLegalFor job history
    → IsTruthfulFor job history last → HasNoIdTwice (pairs_after job history)

-- each call has the class of its answer, by the pairs just after it
abbrev pub EachIsClassed : Type 0
EachIsClassed = (job : JobView) (history : List Event) (last : Stage) → IsReplay job history last
    → (i k : ℕ) (call : Captured) (reply : Reply) (before after : Stage)
    → IsAnsweredAt job history i k call reply before after
    → class_of job history call ≡ Some (class_after after call reply)

-- some line of the report is that of the call with this stamp
abbrev pub IsNamed : JobView → List Event → ℕ → Type 0
IsNamed job history k = (line : Line) × Contains (report_in job history).lines line × (line.stamp ≡ k)

-- the calls that differ are named, and no other
abbrev pub LinesNameWhatDiffers : Type 0
LinesNameWhatDiffers = (job : JobView) (history : List Event) (last : Stage) → IsReplay job history last
    → (i k : ℕ) (call : Captured) (reply : Reply) (before after : Stage)
    → IsAnsweredAt job history i k call reply before after
    → IsNamed job history k ↔ (class_after after call reply ≢ Same)

-- where no line names a call, no commit differs
abbrev pub NoLineNoWriteDivergence : Type 0
NoLineNoWriteDivergence = (job : JobView) (history : List Event) (last : Stage) → IsReplay job history last
    → (report_in job history).lines ≡ [] → HasNoWriteDivergence job history

-- the report in which each of so many calls is the same
abbrev pub clean_report : ℕ → Report
clean_report calls = record {
  calls = calls;
  counts = map
      (λ class. if class_number class == class_number Same then calls else 0) all_classes;
  lines = [];
}

-- in the captured order nothing differs
abbrev pub AgainIsClean : Type 0
AgainIsClean = (job : JobView) (history : List Event) (last : Stage) → IsReplay job history last → IsAgain job
    → report_in job history ≡ clean_report (length job.calls)

-- a call that meets just what it met in the capture, but for ids, is not named
abbrev pub TwinsAreNotNamed : Type 0
TwinsAreNotNamed = (job : JobView) (history : List Event) (last : Stage) (captured : State)
    → IsReplay job history last → job.target.schema ≡ job.start.schema
    → (i k : ℕ) (call : Captured) (reply : Reply) (before after : Stage) → IsAnsweredAt job history i k call reply before after
    → CameBefore job k captured → IsTwinCall job call captured before → ¬ IsNamed job history k
