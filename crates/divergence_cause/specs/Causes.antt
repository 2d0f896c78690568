-- Why a call of a replay differs.
use Rattle.std.specs.Prelude.{◌≡◌, ℕ, Bool, true, false, List, map, replicate, slice_set}
use Rattle.std.specs.List.{AllByRecursion, fold}
use Rattle.desk_values.specs.declared.capture.Event.{Event}
use Rattle.replay_history.specs.declared.report.Line.{Line}
use Rattle.replay_job.specs.Job.{JobView}
use Rattle.replay_report.specs.Report.{report_in}
pub use Rattle.replay_walk.specs.Walked.{MeetsTheSame}
use Rattle.divergence_cause.specs.declared.cause.Cause.{Cause}
use Rattle.divergence_cause.specs.declared.cause.Cause.TheVariants.{Timing, Upgrade}
use Rattle.divergence_cause.specs.declared.cause.CauseLine.{CauseLine}

-- what each cause means
abbrev pub IsCause : JobView → List Event → ℕ → Cause → Type 0
IsCause job history k Timing = ¬ MeetsTheSame job history k
IsCause job history k Upgrade = MeetsTheSame job history k

-- a line for each call that differs, by stamp, with its cause
pub record AreCauses (job : JobView) (history : List Event) (lines : List CauseLine) : Type 0 where
  pub stamps : map (λ (line : CauseLine). line.stamp) lines ≡ map (λ (line : Line). line.stamp) (report_in job history).lines
  pub causes : AllByRecursion (λ (line : CauseLine). IsCause job history line.stamp line.cause) lines

-- no call differs for the server
abbrev pub AllAreTiming : List CauseLine → Type 0
AllAreTiming lines = AllByRecursion (λ (line : CauseLine). line.cause ≡ Timing) lines

-- the place that a line of the report names is marked
abbrev pub with_mark : List Bool → Line → List Bool
with_mark marks line = slice_set marks line.stamp true

-- of each of so many calls whether one of the lines names it
abbrev pub marked_by : ℕ → List Line → List Bool
marked_by calls lines = fold with_mark (replicate calls false) lines
