use Rattle.statement_cache.proofs.Alike.{kinds_decide}
use Rattle.statement_cache.proofs.kinds_decide.Goals as goal

pub returns : goal.returns
returns c = kinds_decide
