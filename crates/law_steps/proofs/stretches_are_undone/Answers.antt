use Rattle.law_steps.proofs.Behind as behind
use Rattle.law_steps.proofs.stretches_are_undone.Goals as goal

pub returns : goal.returns
returns c = behind.stretches_are_undone
