use Rattle.law_commands.proofs.Commands.Ends.{carried, quiet_carried}
use Rattle.law_commands.proofs.command_laws.tables_are_carried.Goals as goal

pub returns-clause-carried : goal.returns-clause-carried
returns-clause-carried c = carried

pub returns-clause-quiet : goal.returns-clause-quiet
returns-clause-quiet c = quiet_carried
