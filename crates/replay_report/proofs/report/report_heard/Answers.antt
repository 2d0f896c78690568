use Rattle.replay_report.proofs.report.report_heard.Goals as goal

pub reported-requires : goal.reported-requires
reported-requires c = λ k call at. (c.requires.replayable.legal.each k call at).stamp
