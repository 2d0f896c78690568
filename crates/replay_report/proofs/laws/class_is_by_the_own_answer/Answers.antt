use Rattle.replay_report.proofs.Reports.{by_own_answer}
use Rattle.replay_report.proofs.laws.class_is_by_the_own_answer.Goals as goal

pub returns : goal.returns
returns c = by_own_answer
