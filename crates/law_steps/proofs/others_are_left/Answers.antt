use Rattle.law_steps.proofs.Leaving as leaving
use Rattle.law_steps.proofs.others_are_left.Goals as goal

pub returns-clause-step : goal.returns-clause-step
returns-clause-step c = leaving.others_are_left

pub returns-clause-run : goal.returns-clause-run
returns-clause-run c = leaving.runs_leave_others
