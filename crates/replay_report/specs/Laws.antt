-- What the laws of the report say.
use Rattle.std.specs.Prelude.{◌≡◌, ◌≢◌, ℕ, ◌+◌, ◌≤◌, List, [], ◌∷◌, Some}
use Rattle.desk_values.specs.declared.capture.Captured.{Captured}
use Rattle.desk_values.specs.declared.capture.Event.{Event}
use Rattle.replay_history.specs.declared.report.Class.TheVariants.{Same}
use Rattle.replay_history.specs.declared.report.Line.{Line}
use Rattle.replay_history.specs.Gap.{IsCallAt}
use Rattle.replay_job.specs.Job.{JobView}
use Rattle.replay_report.specs.Report.{class_of}

-- the line is that of a call of this class, which is not `Same`
pub record IsLineOf (job : JobView) (history : List Event) (l : Line) : Type 0 where
  pub call : Captured
  pub at : IsCallAt job.calls l.stamp call
  pub session : l.session ≡ call.session
  pub place : l.place ≡ call.place
  pub class : class_of job history call ≡ Some l.class
  pub differs : l.class ≢ Same

-- the stamps rise, from this one on
abbrev pub StampsRise : ℕ → List Line → Type 0
StampsRise least [] = Unit {0}
StampsRise least (l ∷ lines) = (least ≤ l.stamp) × StampsRise (l.stamp + 1) lines
