use Rattle.replay_report.proofs.Classes.{heard_is_report}
use Rattle.replay_report.proofs.Once.{once_of}
use Rattle.replay_report.proofs.laws.heard_reports_are_reports.Goals as goal

pub returns : goal.returns
returns c = λ job history replayable complete. heard_is_report job history (once_of job history replayable complete)
