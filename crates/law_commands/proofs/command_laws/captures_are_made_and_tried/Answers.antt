use Rattle.law_commands.proofs.Commands.Complete.{made, tried}
use Rattle.law_commands.proofs.command_laws.captures_are_made_and_tried.Goals as goal

pub returns-clause-made : goal.returns-clause-made
returns-clause-made c = made

pub returns-clause-tried : goal.returns-clause-tried
returns-clause-tried c = tried
