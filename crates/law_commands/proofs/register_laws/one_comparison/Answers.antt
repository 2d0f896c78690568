use Rattle.law_commands.proofs.Register.OneList.{one_comparison}
use Rattle.law_commands.proofs.register_laws.one_comparison.Goals as goal

pub returns : goal.returns
returns c = one_comparison
