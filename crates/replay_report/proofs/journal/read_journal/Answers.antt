use Rattle.std.proofs.Common.{sym, subst}
use Rattle.replay_report.specs.JournalFile.{IsJournal}
use Rattle.replay_report.proofs.JournalFiles.{error_read, file_read}
use Rattle.replay_report.proofs.journal.read_journal.Goals as goal

pub returns-in-Ok : goal.returns-in-Ok
returns-in-Ok c = subst (IsJournal c.args.bytes.now c.into_journal.result.mode) (sym c.into_journal.ensures.events) (file_read c.args.bytes.now c.in-Ok.read c.into_journal.result.mode (rw c.new-draft.ensures at c.in-Ok.ensures) c.into_journal.ensures.mode)

pub returns-in-Err : goal.returns-in-Err
returns-in-Err c = error_read c.args.bytes.now c.in-Err.error (rw c.new-draft.ensures at c.in-Err.ensures)
