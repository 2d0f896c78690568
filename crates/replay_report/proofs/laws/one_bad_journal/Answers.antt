use Rattle.replay_report.proofs.JournalFiles.{one_bad}
use Rattle.replay_report.proofs.laws.one_bad_journal.Goals as goal

pub returns : goal.returns
returns c = one_bad
