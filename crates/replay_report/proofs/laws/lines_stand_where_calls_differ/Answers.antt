use Rattle.replay_report.proofs.Reports.{stand_where}
use Rattle.replay_report.proofs.laws.lines_stand_where_calls_differ.Goals as goal

pub returns : goal.returns
returns c = stand_where
