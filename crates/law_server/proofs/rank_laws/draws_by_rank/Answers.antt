use Rattle.law_server.proofs.Drawn.{draws_by_rank}
use Rattle.law_server.proofs.rank_laws.draws_by_rank.Goals as goal

pub returns : goal.returns
returns c = draws_by_rank
