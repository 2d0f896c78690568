use Rattle.run_register.proofs.Repeats.{first_stands}
use Rattle.run_register.proofs.laws.first_report_stands.Goals as goal

pub returns : goal.returns
returns c = first_stands
