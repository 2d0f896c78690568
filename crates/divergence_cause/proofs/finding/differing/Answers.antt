use Rattle.std.proofs.Common.{◌≡◌, ◌∙◌, Bool, List, length, ap}
use Rattle.std.specs.Prelude.{Vec}
use Rattle.std.specs.declared.alloc.Global.{Global}
use Rattle.std.proofs.lemmas.Result.{IfOk-weaker}
use Rattle.replay_job.specs.Job.{seen}
use Rattle.divergence_cause.specs.Causes.{marked_by}
use Rattle.divergence_cause.proofs.Marking.{marked_length}
use Rattle.divergence_cause.proofs.finding.differing.Goals as goal

pub returns-clause-marks : goal.returns-clause-marks
returns-clause-marks c =
    IfOk-weaker c.marks.result (λ (marks : Vec Bool Global). marks.items ≡ marked_by c.len.result c.as_slice.result.now) (λ (marks : Vec Bool Global). marks.items ≡ marked_by (length (seen c.args.job.now).calls) c.args.report.now.lines)
    (λ marks is. is ∙ (λ i. marked_by (c.len.ensures i) (c.as_slice.ensures i))) c.marks.ensures

pub returns-clause-count : goal.returns-clause-count
returns-clause-count c =
    IfOk-weaker c.marks.result (λ (marks : Vec Bool Global). marks.items ≡ marked_by c.len.result c.as_slice.result.now) (λ (marks : Vec Bool Global). length marks.items ≡ length (seen c.args.job.now).calls)
    (λ marks is. ap length is ∙ marked_length c.len.result c.as_slice.result.now ∙ c.len.ensures) c.marks.ensures
