use Rattle.run_files.proofs.CausesFiles.{reads_bad, reads_ok}
use Rattle.run_files.proofs.causes.read_causes.Goals as goal

pub returns-clause-ok : goal.returns-clause-ok
returns-clause-ok c = reads_ok c.args.lines.now c.args.bytes.now c.causes_of.result c.causes_of.ensures

pub returns-clause-bad : goal.returns-clause-bad
returns-clause-bad c = reads_bad c.args.lines.now c.args.bytes.now c.causes_of.result c.causes_of.ensures
