use Rattle.std.proofs.Common.{◌≡◌, ◌∙◌, Bool, List, length, map, ap, subst, sym}
use Rattle.std.proofs.lemmas.Result.{IfOk-weaker}
use Rattle.desk_values.specs.declared.capture.Event.{Event}
use Rattle.replay_history.specs.declared.report.Line.{Line}
use Rattle.replay_history.specs.declared.report.Report.{Report}
use Rattle.replay_job.specs.Job.{JobView}
use Rattle.replay_job.specs.Replays.{IsReplay}
use Rattle.replay_job.specs.Runs.{Stage}
use Rattle.replay_report.specs.Report.{report_in}
use Rattle.replay_walk.specs.Walked.{AreTold}
use Rattle.divergence_cause.specs.declared.cause.CauseLine.{CauseLine}
use Rattle.divergence_cause.specs.Causes.{AreCauses, marked_by}
use Rattle.divergence_cause.specs.Inside.{line_with}
use Rattle.divergence_cause.proofs.Found.{are_causes}
use Rattle.divergence_cause.proofs.finding.causes_in.Goals as goal

pub returns : goal.returns
returns c =
    let report = c.args.report.now in
    let twins = c.args.walked.now.twins.items in
    let named = c.as_slice.result.now in
    let marks = c.as_slice-2.result.now in
    IfOk-weaker c.lines_of.result (λ (list : List CauseLine). list ≡ map (line_with marks) named)
    (λ (list : List CauseLine). (job : JobView) (history : List Event) (last : Stage) → IsReplay job history last → report ≡ report_in job history → AreTold job history (marked_by (length job.calls) report.lines) twins → AreCauses job history list)
    (λ list is job history last replay report_is told.
    subst (AreCauses job history) (sym (is ∙ (λ i. map (line_with (c.as_slice-2.ensures.value i)) (c.as_slice.ensures i))))
    (are_causes job history last replay report.lines (ap (λ (r : Report). r.lines) report_is) twins told)) c.lines_of.ensures
