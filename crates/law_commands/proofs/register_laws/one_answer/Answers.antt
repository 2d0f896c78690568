use Rattle.std.proofs.Common.{subst, sym, ◌∙◌}
use Rattle.law_commands.proofs.Register.Answering.{answer_alone, left_alone}
use Rattle.law_commands.proofs.Register.OneEnd.{IsTold}
use Rattle.law_commands.proofs.register_laws.one_answer.Goals as goal

pub returns-clause-answer : goal.returns-clause-answer
returns-clause-answer c errand k m runs divergences answer other told told_too accepted accepted_too is also =
    answer_alone errand k m divergences answer other (subst IsTold (sym told) tt) accepted (told_too ∙ sym told) (accepted_too ∙ sym accepted) is also

pub returns-clause-left : goal.returns-clause-left
returns-clause-left c = left_alone
