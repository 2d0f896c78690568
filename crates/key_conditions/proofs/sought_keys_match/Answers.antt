use Rattle.key_conditions.proofs.Sound.{asks_for}
use Rattle.key_conditions.proofs.sought_keys_match.Goals as goal

pub returns : goal.returns
returns c = asks_for
