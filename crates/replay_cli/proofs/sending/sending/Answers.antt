use Rattle.replay_job.specs.Job.{seen}
use Rattle.replay_cli.proofs.Parts.{dialling_of}
use Rattle.replay_cli.proofs.Sent.{counts_so, fails_so, planned_counts, planned_fails, planned_sent}
use Rattle.replay_cli.proofs.sending.sending.Goals as goal

pub run_remote-requires-clause-job : goal.run_remote-requires-clause-job
run_remote-requires-clause-job g c κs within = c.requires.job.replayable

pub returns-in-Ok-clause-done : goal.returns-in-Ok-clause-done
returns-in-Ok-clause-done g c = planned_sent (seen c.args.job) c.in-Ok.desk (dialling_of _ _ _ _) c.in-Ok.ensures.ends c.args.out.now c.planned.result c.told_of.result c.in-Ok.ensures.job c.told_of.ensures.kept c.in-Ok.ensures.all c.in-Ok.ensures.back c.in-Ok.ensures.once c.planned.ensures.done c.told_of.ensures.told

pub returns-in-Ok-clause-fails : goal.returns-in-Ok-clause-fails
returns-in-Ok-clause-fails g c = planned_fails (seen c.args.job) c.in-Ok.desk (dialling_of _ _ _ _) c.in-Ok.ensures.ends c.planned.result c.in-Ok.ensures.once c.planned.ensures.short

pub returns-in-Ok-clause-dial : goal.returns-in-Ok-clause-dial
returns-in-Ok-clause-dial g c = planned_counts (seen c.args.job) c.in-Ok.desk (dialling_of _ _ _ _) c.in-Ok.ensures.ends c.planned.result c.planned.ensures.short

pub returns-in-Err-clause-fails : goal.returns-in-Err-clause-fails
returns-in-Err-clause-fails g c = fails_so (seen c.args.job) (dialling_of _ _ _ _) c.in-Err.error c.failed_as.result c.failed_as.ensures c.in-Err.ensures.back c.in-Err.ensures.once c.in-Err.ensures.ends c.in-Err.ensures.differs

pub returns-in-Err-clause-dial : goal.returns-in-Err-clause-dial
returns-in-Err-clause-dial g c = counts_so c.in-Err.error c.failed_as.result (dialling_of _ _ _ _) c.failed_as.ensures c.in-Err.ensures.ends
