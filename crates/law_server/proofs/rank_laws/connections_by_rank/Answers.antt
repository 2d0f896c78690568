use Rattle.law_server.proofs.Ranks.{connections_first}
use Rattle.law_server.proofs.rank_laws.connections_by_rank.Goals as goal

pub returns : goal.returns
returns c = connections_first
