-- The laws of plain reads.
use Rattle.std.specs.Prelude.{◌≡◌, ℕ, List, Some}
use Rattle.std.specs.List.{Contains}
use Rattle.desk_values.specs.declared.call.Reply.{Reply}
use Rattle.desk_values.specs.declared.capture.Captured.{Captured}
use Rattle.desk_values.specs.declared.capture.Event.{Event}
use Rattle.server_words.specs.State.{State}
use Rattle.replay_history.specs.declared.report.Class.TheVariants.{Same}
use Rattle.replay_history.specs.Gap.{IsCallAt}
use Rattle.replay_job.specs.Job.{JobView}
use Rattle.replay_job.specs.Runs.{Stage}
use Rattle.replay_report.specs.Report.{class_of}
use Rattle.law_replays.specs.End.Answers.{FencesCommits, IsReplay, class_after}
use Rattle.fence_law.specs.Plain.{ArePlainReads, IsPlainAnswer}

-- each call with one of these stamps is the same
abbrev pub AreSame : JobView → List Event → List ℕ → Type 0
AreSame job history stamps = (k : ℕ) (call : Captured) → Contains stamps k → IsCallAt job.calls k call
    → class_of job history call ≡ Some Same

-- where both servers have one schema a plain read is answered the same
abbrev pub PlainReadsAreSame : Type 0
PlainReadsAreSame = (job : JobView) (history : List Event) (last : Stage) → IsReplay job history last → FencesCommits job.mode
    → job.target.schema ≡ job.start.schema
    → (k place : ℕ) (call : Captured) (reply : Reply) (before after : Stage) (captured : State)
    → IsPlainAnswer job history k place call reply before after captured → class_after after call reply ≡ Same

abbrev pub OneListOfPlainReads : Type 0
OneListOfPlainReads = (job : JobView) (history : List Event) (stamps others : List ℕ)
    → ArePlainReads job history stamps → ArePlainReads job history others → stamps ≡ others
