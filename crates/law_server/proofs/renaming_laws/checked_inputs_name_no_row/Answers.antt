use Rattle.law_server.proofs.Renaming.Checking.{inputs_name_no_row}
use Rattle.law_server.proofs.renaming_laws.checked_inputs_name_no_row.Goals as goal

pub returns : goal.returns
returns c = inputs_name_no_row
