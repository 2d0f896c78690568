use Rattle.replay_page.proofs.Files.{quiet_report}
use Rattle.replay_cli.proofs.reading.parse_report.Goals as goal

pub returns-in-Ok-clause-quiet : goal.returns-in-Ok-clause-quiet
returns-in-Ok-clause-quiet c = quiet_report c.args.bytes.now c.in-Ok.report (rw c.as_slice.ensures at c.in-Ok.ensures)
