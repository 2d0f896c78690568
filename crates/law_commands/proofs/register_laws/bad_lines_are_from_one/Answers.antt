use Rattle.law_commands.proofs.Register.Answering.{from_one}
use Rattle.law_commands.proofs.register_laws.bad_lines_are_from_one.Goals as goal

pub returns : goal.returns
returns c = from_one
