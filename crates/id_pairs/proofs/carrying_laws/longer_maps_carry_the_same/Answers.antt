use Rattle.id_pairs.proofs.Carrying.Carrying.{images_longer, rows_longer}
use Rattle.id_pairs.proofs.carrying_laws.longer_maps_carry_the_same.Goals as goal

pub returns : goal.returns
returns c = record { rows = rows_longer; images = images_longer }
