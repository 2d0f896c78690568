use Rattle.captured_calls.proofs.Growing.{fitting_longer}
use Rattle.captured_calls.proofs.laws.fitting_calls_grow.Goals as goal

pub returns : goal.returns
returns c = λ rows calls new fit fits. fitting_longer rows calls new fits fit
