use Rattle.desk_values.proofs.ValueTexts.{value_reader}
use Rattle.desk_values.proofs.Readers.{reads_ok, reads_only}
use Rattle.desk_values.proofs.reading.read_value.Goals as goal

pub returns-clause-ok : goal.returns-clause-ok
returns-clause-ok c = reads_ok value_reader c.args.bytes.now c.value.result c.value.ensures

pub returns-clause-only : goal.returns-clause-only
returns-clause-only c = reads_only value_reader c.args.bytes.now c.value.result c.value.ensures
