use Rattle.law_server.proofs.Ranks.{causes_first}
use Rattle.law_server.proofs.rank_laws.causes_by_rank.Goals as goal

pub returns : goal.returns
returns c = causes_first
