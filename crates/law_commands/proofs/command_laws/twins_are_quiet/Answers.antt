use Rattle.law_commands.proofs.Commands.Ends.{twins_quiet}
use Rattle.law_commands.proofs.command_laws.twins_are_quiet.Goals as goal

pub returns : goal.returns
returns c = twins_quiet
