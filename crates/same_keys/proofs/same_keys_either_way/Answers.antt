use Rattle.same_keys.proofs.Prints.{either}
use Rattle.same_keys.proofs.same_keys_either_way.Goals as goal

pub returns : goal.returns
returns c = either
