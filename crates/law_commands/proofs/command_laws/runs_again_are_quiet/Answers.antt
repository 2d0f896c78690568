use Rattle.law_commands.proofs.Commands.Ends.{again_quiet}
use Rattle.law_commands.proofs.command_laws.runs_again_are_quiet.Goals as goal

pub returns : goal.returns
returns c = again_quiet
