use Rattle.law_commands.proofs.Legality.Both.{legal_are_taken, taken_can_be_legal}
use Rattle.law_commands.proofs.legality_laws.taken_where_legal.Goals as goal

pub returns : goal.returns
returns c = λ start lists are count. (taken_can_be_legal start lists are count, legal_are_taken start lists)
