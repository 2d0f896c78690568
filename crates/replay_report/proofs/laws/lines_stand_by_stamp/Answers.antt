use Rattle.replay_report.proofs.Reports.{by_stamp}
use Rattle.replay_report.proofs.laws.lines_stand_by_stamp.Goals as goal

pub returns : goal.returns
returns c = by_stamp
