use Rattle.run_register.proofs.Repeats.{repeats_once}
use Rattle.run_register.proofs.laws.repeats_act_once.Goals as goal

pub returns : goal.returns
returns c = repeats_once
