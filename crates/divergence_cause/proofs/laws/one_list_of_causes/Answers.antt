use Rattle.divergence_cause.proofs.Timing.{one_list_of}
use Rattle.divergence_cause.proofs.laws.one_list_of_causes.Goals as goal

pub returns : goal.returns
returns c = one_list_of
