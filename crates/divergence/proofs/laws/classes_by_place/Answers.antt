use Rattle.divergence.proofs.Places.{placed}
use Rattle.divergence.proofs.laws.classes_by_place.Goals as goal

pub returns : goal.returns
returns c = placed
