use Rattle.law_steps.proofs.Leaving as leaving
use Rattle.law_steps.proofs.refused_leaves.Goals as goal

pub returns : goal.returns
returns c = leaving.refused_leaves
