use Rattle.id_pairs.proofs.Carrying.Carrying.{each_length}
use Rattle.id_pairs.specs.Carrying.Carried.{carried_row}
use Rattle.id_pairs.proofs.carrying_laws.carried_rows_keep_their_number.Goals as goal

pub returns : goal.returns
returns c = λ pairs. each_length (carried_row pairs)
