use Rattle.id_pairs.proofs.Carrying.Carrying.{renamed_carried}
use Rattle.id_pairs.proofs.carrying_laws.renamed_are_carried.Goals as goal

pub returns : goal.returns
returns c = renamed_carried
