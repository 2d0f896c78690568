use Rattle.replay_report.proofs.Reports.{add_up}
use Rattle.replay_report.proofs.laws.counts_add_up.Goals as goal

pub returns : goal.returns
returns c = add_up
