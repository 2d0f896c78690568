use Rattle.desk_values.proofs.Escapes.{txts}
use Rattle.desk_values.proofs.Readers.{reads_ok, reads_only}
use Rattle.desk_values.proofs.fields.read_text.Goals as goal

pub returns-clause-ok : goal.returns-clause-ok
returns-clause-ok c = reads_ok txts c.args.bytes.now c.text.result c.text.ensures

pub returns-clause-only : goal.returns-clause-only
returns-clause-only c = reads_only txts c.args.bytes.now c.text.result c.text.ensures
