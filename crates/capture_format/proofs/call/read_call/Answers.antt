use Rattle.desk_values.proofs.Readers.{reads_ok, reads_only}
use Rattle.capture_format.proofs.CallTexts.{call_reader}
use Rattle.capture_format.proofs.call.read_call.Goals as goal

pub returns-clause-ok : goal.returns-clause-ok
returns-clause-ok c = reads_ok call_reader c.args.bytes.now c.call.result c.call.ensures

pub returns-clause-only : goal.returns-clause-only
returns-clause-only c = reads_only call_reader c.args.bytes.now c.call.result c.call.ensures
