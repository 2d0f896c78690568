use Rattle.divergence.proofs.Classes.{same_is_equal}
use Rattle.divergence.proofs.laws.same_where_equal.Goals as goal

pub returns : goal.returns
returns c = same_is_equal
