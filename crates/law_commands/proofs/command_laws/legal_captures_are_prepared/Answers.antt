use Rattle.law_commands.proofs.Commands.Complete.{legal_prepared}
use Rattle.law_commands.proofs.command_laws.legal_captures_are_prepared.Goals as goal

pub returns : goal.returns
returns c = legal_prepared
