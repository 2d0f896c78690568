use Rattle.law_commands.proofs.Commands.Good.{registers_good}
use Rattle.law_commands.proofs.command_laws.registers_stay_good.Goals as goal

pub returns : goal.returns
returns c = registers_good
