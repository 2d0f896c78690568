use Rattle.std.proofs.Common.{◌≡◌, ◌∙◌, Bool, List, length, ap, subst, sym}
use Rattle.std.proofs.lemmas.Result.{IfOk-weaker}
use Rattle.desk_values.specs.declared.capture.Event.{Event}
use Rattle.replay_job.specs.Job.{JobView, seen}
use Rattle.replay_job.specs.Replays.{IsReplay}
use Rattle.replay_job.specs.Runs.{Stage}
use Rattle.replay_report.specs.Report.{report_in}
use Rattle.replay_walk.specs.Walked.{AreTold}
use Rattle.divergence_cause.specs.declared.cause.CauseLine.{CauseLine}
use Rattle.divergence_cause.specs.Causes.{AllAreTiming, AreCauses, marked_by}
use Rattle.divergence_cause.proofs.Timing.{all_timing}
use Rattle.divergence_cause.proofs.finding.causes.Goals as goal

pub walk-requires-clause-twins : goal.walk-requires-clause-twins
walk-requires-clause-twins c = ap length c.as_slice.ensures.value ∙ c.in_ok-differs.ensures.count

pub returns-clause-causes : goal.returns-clause-causes
returns-clause-causes c =
    let job = seen c.args.job.now in
    let history = c.args.history.now.items in
    let last = c.requires.complete.0 in
    let replay : IsReplay job history last = record { sound = c.requires.sound; complete = c.requires.complete.1 } in
    let report = c.in_ok-report.report in
    let twins = c.in_ok-walked.walked.twins.items in
    let told = subst (λ (asked : List Bool). AreTold job history asked twins) (c.as_slice.ensures.value ∙ c.in_ok-differs.ensures.marks) c.in_ok-walked.ensures.twins in
    IfOk-weaker c.causes_in.result
    (λ (list : List CauseLine). (j : JobView) (h : List Event) (end : Stage) → IsReplay j h end → report ≡ report_in j h → AreTold j h (marked_by (length j.calls) report.lines) twins → AreCauses j h list) (λ (list : List CauseLine). AreCauses job history list)
    (λ list are. are job history last replay c.in_ok-report.ensures told) c.causes_in.ensures

pub returns-clause-timing : goal.returns-clause-timing
returns-clause-timing c = λ schemas.
    let job = seen c.args.job.now in
    let history = c.args.history.now.items in
    IfOk-weaker c.causes_in.result (λ (list : List CauseLine). AreCauses job history list) (λ (list : List CauseLine). AllAreTiming list)
    (λ list are. all_timing job history c.requires.complete.0 list (record { sound = c.requires.sound; complete = c.requires.complete.1 }) schemas are) (returns-clause-causes c)
