use Rattle.std.proofs.Common.{◌≡◌, List, subst, sym}
use Rattle.std.specs.Prelude.{IfOk}
use Rattle.desk_values.specs.declared.capture.Event.{Event}
use Rattle.replay_history.specs.History.{AnswersAll}
use Rattle.replay_job.specs.Job.{IsReplayable, JobView, seen}
use Rattle.replay_job.specs.Runs.{IsLegalFor}
use Rattle.replay_report.specs.Report.{heard_report_in}
use Rattle.remote_desk.specs.History.{plain}
use Rattle.replay_cli.proofs.sending.report_on.Goals as goal

pub report_heard-requires-clause-replayable : goal.report_heard-requires-clause-replayable
report_heard-requires-clause-replayable c = subst IsReplayable (sym c.job.ensures) c.requires.kept.replayable

pub report_heard-requires-clause-legal : goal.report_heard-requires-clause-legal
report_heard-requires-clause-legal c =
    subst (λ (h : List Event). IsLegalFor (seen c.job.result.now) h) (sym c.requires.history) (subst (λ (j : JobView). IsLegalFor j (plain c.args.desk.now.events)) (sym c.job.ensures) c.requires.kept.remote.legal)

pub report_heard-requires-clause-whole : goal.report_heard-requires-clause-whole
report_heard-requires-clause-whole c =
    subst (λ (h : List Event). AnswersAll (seen c.job.result.now).calls h) (sym c.requires.history) (subst (λ (j : JobView). AnswersAll j.calls (plain c.args.desk.now.events)) (sym c.job.ensures) c.requires.all)

pub returns : goal.returns
returns c =
    subst (λ (h : List Event). IfOk c.report_heard.result (λ report. report ≡ heard_report_in c.args.desk.now.job h)) c.requires.history (subst (λ (j : JobView). IfOk c.report_heard.result (λ report. report ≡ heard_report_in j c.args.history.now.items)) c.job.ensures c.report_heard.ensures)
