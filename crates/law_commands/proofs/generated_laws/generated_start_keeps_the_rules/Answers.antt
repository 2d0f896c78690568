use Rattle.law_commands.proofs.Generated.Starting.{keeps}
use Rattle.law_commands.proofs.generated_laws.generated_start_keeps_the_rules.Goals as goal

pub returns : goal.returns
returns c = keeps
