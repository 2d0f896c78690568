use Rattle.law_steps.proofs.Behind as behind
use Rattle.law_steps.proofs.Kept as kept
use Rattle.law_steps.proofs.savepoints_keep.Goals as goal

pub returns-clause-kept : goal.returns-clause-kept
returns-clause-kept c = kept.savepoints_keep

pub returns-clause-restored : goal.returns-clause-restored
returns-clause-restored c = kept.going_back_restores

pub returns-clause-stay : goal.returns-clause-stay
returns-clause-stay c = kept.savepoints_stay

pub returns-clause-left : goal.returns-clause-left
returns-clause-left c = behind.others_leave_savepoints

pub returns-clause-rest : goal.returns-clause-rest
returns-clause-rest c = behind.savepoints_leave_the_rest
