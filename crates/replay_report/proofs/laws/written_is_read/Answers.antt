use Rattle.replay_report.proofs.JournalFiles.{read_back}
use Rattle.replay_report.proofs.laws.written_is_read.Goals as goal

pub returns : goal.returns
returns c = read_back
