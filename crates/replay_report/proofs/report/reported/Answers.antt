use Rattle.std.proofs.Common.{◌∙◌, ap, length}
use Rattle.desk_values.specs.declared.capture.Captured.{Captured}
use Rattle.std.specs.Prelude.{List}
use Rattle.replay_job.specs.Job.{seen}
use Rattle.replay_report.specs.Report.{counts_of}
use Rattle.replay_report.specs.Inside.Written.{differences}
use Rattle.replay_report.proofs.Classes.{report_is}
use Rattle.replay_report.proofs.report.reported.Goals as goal

pub returns : goal.returns
returns c =
    let job = seen c.args.job.now in
    let is = report_is job c.args.history.now.items c.requires c.in_ok-classes.classes.items (rw (c.as_slice-calls.ensures, c.as_slice.ensures) at c.in_ok-classes.ensures.classes) in
    let calls = ap length c.as_slice-calls.ensures in
    let counts = c.counts_of.ensures ∙ ap counts_of c.as_slice-3.ensures.value ∙ is.0 in
    let lines = c.in_ok-lines.ensures ∙ ap (λ (calls : List Captured). differences calls c.as_slice-2.result.now) c.as_slice-calls.ensures ∙ ap (differences job.calls) c.as_slice-2.ensures.value ∙ is.1 in
    λ i. record { calls = calls i; counts = counts i; lines = lines i }
