use Rattle.law_commands.proofs.Commands.Complete.{served}
use Rattle.law_commands.proofs.command_laws.starts_are_served.Goals as goal

pub returns : goal.returns
returns c = served
