use Rattle.law_ids.proofs.Apart.{learnt_new}
use Rattle.law_ids.proofs.given_laws.learnt_ids_are_new.Goals as goal

pub returns : goal.returns
returns c = λ start calls last k captured old new session sent reply pairs is run there. learnt_new start calls last k captured is run there old new session sent reply pairs
