use Rattle.sql_eval.proofs.Sorted.{unknown_means_null, value_has_its_kind}
use Rattle.sql_eval.proofs.laws.values_have_their_kind.Goals as goal

pub returns : goal.returns
returns c = record { value = value_has_its_kind; unknown = unknown_means_null }
