use Rattle.law_server.proofs.Calls.{answers_by_rank, replies_by_rank}
use Rattle.law_server.proofs.rank_laws.calls_by_rank.Goals as goal

pub returns : goal.returns
returns c = record { answers = answers_by_rank; replies = replies_by_rank }
