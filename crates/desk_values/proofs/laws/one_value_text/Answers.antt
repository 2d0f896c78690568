use Rattle.desk_values.proofs.Readers.{one_text}
use Rattle.desk_values.proofs.ValueTexts.{value_reader}
use Rattle.desk_values.proofs.laws.one_value_text.Goals as goal

pub returns : goal.returns
returns c = one_text value_reader
