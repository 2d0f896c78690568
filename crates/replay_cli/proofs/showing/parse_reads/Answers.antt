use Rattle.replay_page.proofs.Files.{quiet_reads}
use Rattle.replay_cli.proofs.showing.parse_reads.Goals as goal

pub returns-in-Ok-clause-quiet : goal.returns-in-Ok-clause-quiet
returns-in-Ok-clause-quiet c = quiet_reads c.args.bytes.now c.in-Ok.reads (rw c.as_slice.ensures at c.in-Ok.ensures)
