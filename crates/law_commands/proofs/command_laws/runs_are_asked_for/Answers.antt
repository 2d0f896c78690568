use Rattle.law_commands.proofs.Commands.Asked.{errands_end}
use Rattle.law_commands.proofs.Commands.Complete.{accepted, compared, listed, registered}
use Rattle.law_commands.proofs.command_laws.runs_are_asked_for.Goals as goal

pub returns-clause-registered : goal.returns-clause-registered
returns-clause-registered c = registered

pub returns-clause-listed : goal.returns-clause-listed
returns-clause-listed c = listed

pub returns-clause-accepted : goal.returns-clause-accepted
returns-clause-accepted c = accepted

pub returns-clause-compared : goal.returns-clause-compared
returns-clause-compared c = compared

pub returns-clause-end : goal.returns-clause-end
returns-clause-end c = errands_end
