use Rattle.law_commands.proofs.Commands.Complete.{legal_replayed}
use Rattle.law_commands.proofs.command_laws.legal_captures_are_replayed.Goals as goal

pub returns : goal.returns
returns c = legal_replayed
