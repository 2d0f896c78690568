use Rattle.desk_values.proofs.Readers.{one_text}
use Rattle.capture_format.proofs.CallTexts.{call_reader}
use Rattle.capture_format.proofs.laws.one_call_text.Goals as goal

pub returns : goal.returns
returns c = one_text call_reader
