use Rattle.law_commands.proofs.Commands.Statuses.{failures_end, tasks_end}
use Rattle.law_commands.proofs.command_laws.may_end.Goals as goal

pub returns-clause-done : goal.returns-clause-done
returns-clause-done c = tasks_end

pub returns-clause-refused : goal.returns-clause-refused
returns-clause-refused c = failures_end
