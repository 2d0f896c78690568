use Rattle.desk_schema.proofs.Drafting.{same_counts, counts_same}
use Rattle.desk_schema.proofs.laws.keys_at_a_level.Goals as goal

pub returns : goal.returns
returns c = λ level key other there. (same_counts level key other, counts_same level key other there)
