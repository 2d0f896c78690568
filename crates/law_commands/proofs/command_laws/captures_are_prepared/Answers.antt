use Rattle.law_commands.proofs.Commands.Complete.{prepared}
use Rattle.law_commands.proofs.command_laws.captures_are_prepared.Goals as goal

pub returns : goal.returns
returns c = prepared
