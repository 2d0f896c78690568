use Rattle.std.proofs.Common.{◌≡◌, List, subst, sym}
use Rattle.std.specs.Prelude.{IfOk}
use Rattle.desk_values.specs.declared.capture.Event.{Event}
use Rattle.replay_job.specs.Job.{IsReplayable, JobView, seen}
use Rattle.replay_job.specs.Runs.{IsCompleteFor}
use Rattle.replay_report.specs.Report.{report_in}
use Rattle.replay_cli.proofs.plan.report_on.Goals as goal

pub report_of-requires-clause-replayable : goal.report_of-requires-clause-replayable
report_of-requires-clause-replayable c = subst IsReplayable (sym c.job.ensures) c.requires.replay.replay.sound.replayable

pub report_of-requires-clause-complete : goal.report_of-requires-clause-complete
report_of-requires-clause-complete c =
    let last = c.args.desk.now.stage in
    (last, subst (λ (h : List Event). IsCompleteFor (seen c.job.result.now) h last) (sym c.history.ensures) (subst (λ (j : JobView). IsCompleteFor j c.args.desk.now.history last) (sym c.job.ensures) c.requires.replay.replay.complete))

pub returns : goal.returns
returns c =
    subst (λ (h : List Event). IfOk c.report_of.result (λ report. report ≡ report_in c.args.desk.now.job h)) c.history.ensures (subst (λ (j : JobView). IfOk c.report_of.result (λ report. report ≡ report_in j c.history.result.now.items)) c.job.ensures c.report_of.ensures)
