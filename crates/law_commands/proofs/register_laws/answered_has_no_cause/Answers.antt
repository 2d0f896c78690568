use Rattle.std.proofs.Common.{Option, subst, sym}
use Rattle.run_register.specs.Register.{RunMap}
use Rattle.register_work.specs.Errand.{IsCause}
use Rattle.law_commands.proofs.Register.OneEnd.{IsTold, answered_alone}
use Rattle.law_commands.proofs.register_laws.answered_has_no_cause.Goals as goal

pub returns : goal.returns
returns c errand answer k cause runs told is caused =
    answered_alone errand answer k cause (subst IsTold (sym told) tt) is (subst (λ (rs : Option RunMap). IsCause errand rs cause) (sym told) caused)
