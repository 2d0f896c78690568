use Rattle.law_ids.proofs.Apart.{learnt_given}
use Rattle.law_ids.proofs.given_laws.learnt_ids_are_given.Goals as goal

pub returns : goal.returns
returns c = λ captured replayed. learnt_given captured replayed
