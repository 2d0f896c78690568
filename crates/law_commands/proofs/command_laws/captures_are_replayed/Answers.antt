use Rattle.law_commands.proofs.Commands.Complete.{replayed}
use Rattle.law_commands.proofs.command_laws.captures_are_replayed.Goals as goal

pub returns : goal.returns
returns c = replayed
