use Rattle.law_steps.proofs.Leaving.{runs_add, steps_add}
use Rattle.law_steps.proofs.steps_only_add.Goals as goal

pub returns-clause-step : goal.returns-clause-step
returns-clause-step c = steps_add

pub returns-clause-run : goal.returns-clause-run
returns-clause-run c = runs_add
