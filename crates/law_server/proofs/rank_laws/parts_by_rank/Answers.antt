use Rattle.law_server.proofs.Ranks.{parts_first}
use Rattle.law_server.proofs.rank_laws.parts_by_rank.Goals as goal

pub returns : goal.returns
returns c = parts_first
