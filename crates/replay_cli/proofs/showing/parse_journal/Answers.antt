use Rattle.replay_page.proofs.Files.{quiet_journal}
use Rattle.replay_cli.proofs.Quieted.{bad_journal_file}
use Rattle.replay_cli.proofs.showing.parse_journal.Goals as goal

pub returns-in-Ok-clause-quiet : goal.returns-in-Ok-clause-quiet
returns-in-Ok-clause-quiet c = quiet_journal c.args.bytes.now c.in-Ok.journal.mode c.in-Ok.journal.history.items (rw c.as_slice.ensures at c.in-Ok.ensures)

pub returns-in_ok-copy-in-Err-Bad-clause-says : goal.returns-in_ok-copy-in-Err-Bad-clause-says
returns-in_ok-copy-in-Err-Bad-clause-says c =
    bad_journal_file c.args.name.now c.in_ok-copy-in-Err-Bad.field-0 c.args.bytes.now c.in-Err-Bad.line (rw (c.in-Err-Bad.field-0-is, c.as_slice.ensures) at c.in-Err-Bad.ensures) c.in_ok-copy-in-Err-Bad.ensures
