use Rattle.law_server.proofs.Ranks.{statements_first}
use Rattle.law_server.proofs.rank_laws.statements_by_rank.Goals as goal

pub returns : goal.returns
returns c = statements_first
