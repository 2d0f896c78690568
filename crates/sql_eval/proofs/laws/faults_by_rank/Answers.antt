use Rattle.sql_eval.proofs.CheckLaws.{lowest_rank_is_told, nothing_is_overlooked}
use Rattle.sql_eval.proofs.laws.faults_by_rank.Goals as goal

pub returns : goal.returns
returns c = record { lowest = lowest_rank_is_told; none = nothing_is_overlooked }
