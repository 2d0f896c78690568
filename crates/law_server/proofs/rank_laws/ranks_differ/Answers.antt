use Rattle.law_server.proofs.Stages.{no_rank_twice}
use Rattle.law_server.proofs.rank_laws.ranks_differ.Goals as goal

pub returns : goal.returns
returns c = no_rank_twice
