use Rattle.std.specs.Prelude.{IfOk}
use Rattle.std.proofs.Common.{◌≡◌, subst}
use Rattle.replay_history.specs.declared.report.Report.{Report}
use Rattle.replay_job.specs.Job.{seen}
use Rattle.replay_report.proofs.Classes.{heard_is_report}
use Rattle.replay_report.proofs.Once.{once_of}
use Rattle.replay_report.proofs.report.report_of.Goals as goal

pub reported-requires : goal.reported-requires
reported-requires c = λ k call at. (c.requires.replayable.legal.each k call at).stamp

pub returns : goal.returns
returns c =
    let job = seen c.args.job.now in
    let events = c.args.history.now.items in
    subst (λ (report : Report). IfOk c.reported.result (λ made. made ≡ report)) (heard_is_report job events (once_of job events c.requires.replayable c.requires.complete)) c.reported.ensures
