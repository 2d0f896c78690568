use Rattle.std.proofs.Common.{ap, sym, ◌∙◌}
use Rattle.desk_schema.specs.Rules.{counted}
use Rattle.desk_schema.proofs.Drafting.{same_counts, counts_same, counted_as_is}
use Rattle.desk_schema.proofs.laws.keys_at_level_one.Goals as goal

pub returns : goal.returns
returns c = λ key other there. (
  λ same. sym (counted_as_is key) ∙ same_counts 1 key other same ∙ counted_as_is other,
  λ is. counts_same 1 key other there (ap (counted 1) is),
)
