use Rattle.std.proofs.Common.{◌≡◌, List, subst, sym}
use Rattle.std.specs.Prelude.{IfOk}
use Rattle.desk_values.specs.declared.capture.Event.{Event}
use Rattle.replay_job.specs.Job.{JobView, seen}
use Rattle.replay_job.specs.Replays.{IsReplay}
use Rattle.replay_report.specs.Report.{report_in}
use Rattle.replay_cli.specs.Done.{IsToldOf}
use Rattle.replay_cli.proofs.told.told_on.Goals as goal

pub told_of-requires-clause-report : goal.told_of-requires-clause-report
told_of-requires-clause-report c =
    subst (λ (h : List Event). c.args.report.now ≡ report_in (seen c.job.result.now) h) (sym c.history.ensures) (subst (λ (j : JobView). c.args.report.now ≡ report_in j c.args.desk.now.history) (sym c.job.ensures) c.requires.report)

pub told_of-requires-clause-replay : goal.told_of-requires-clause-replay
told_of-requires-clause-replay c =
    let last = c.args.desk.now.stage in
    (last, subst (λ (h : List Event). IsReplay (seen c.job.result.now) h last) (sym c.history.ensures) (subst (λ (j : JobView). IsReplay j c.args.desk.now.history last) (sym c.job.ensures) c.requires.replay.replay))

pub returns : goal.returns
returns c =
    subst (λ (h : List Event). IfOk c.told_of.result (λ told. IsToldOf c.args.desk.now.job h told)) c.history.ensures (subst (λ (j : JobView). IfOk c.told_of.result (λ told. IsToldOf j c.history.result.now.items told)) c.job.ensures c.told_of.ensures)
