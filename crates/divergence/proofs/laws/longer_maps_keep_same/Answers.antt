use Rattle.divergence.proofs.Classes.{longer_keep}
use Rattle.divergence.proofs.laws.longer_maps_keep_same.Goals as goal

pub returns : goal.returns
returns c = longer_keep
