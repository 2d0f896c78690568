use Rattle.desk_values.proofs.ValueTexts.{values_reader}
use Rattle.desk_values.proofs.Readers.{reads_ok, reads_only}
use Rattle.desk_values.proofs.reading.read_values.Goals as goal

pub returns-clause-ok : goal.returns-clause-ok
returns-clause-ok c = reads_ok values_reader c.args.bytes.now c.values.result c.values.ensures

pub returns-clause-only : goal.returns-clause-only
returns-clause-only c = reads_only values_reader c.args.bytes.now c.values.result c.values.ensures
