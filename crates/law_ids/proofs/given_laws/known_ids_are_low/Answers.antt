use Rattle.law_ids.proofs.Starts.{known_low}
use Rattle.law_ids.proofs.given_laws.known_ids_are_low.Goals as goal

pub returns : goal.returns
returns c = λ start calls last k value. known_low start calls last k value
