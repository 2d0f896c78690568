use Rattle.replay_report.proofs.JournalFiles.{one_file}
use Rattle.replay_report.proofs.laws.one_journal.Goals as goal

pub returns : goal.returns
returns c = one_file
