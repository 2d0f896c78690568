use Rattle.same_keys.proofs.Prints.{share}
use Rattle.same_keys.proofs.keys_share_prints.Goals as goal

pub returns : goal.returns
returns c = share
