use Rattle.law_commands.proofs.Commands.Behind.{behind, sent_behind}
use Rattle.law_commands.proofs.Commands.Small.{reports_small}
use Rattle.law_commands.proofs.Commands.Whole.{reports_whole, written_registered}
use Rattle.law_commands.proofs.command_laws.reports_of_runs_are_registered.Goals as goal

pub returns-clause-small : goal.returns-clause-small
returns-clause-small c = reports_small

pub returns-clause-whole : goal.returns-clause-whole
returns-clause-whole c = reports_whole

pub returns-clause-registered : goal.returns-clause-registered
returns-clause-registered c = written_registered

pub returns-clause-behind : goal.returns-clause-behind
returns-clause-behind c = behind

pub returns-clause-sent : goal.returns-clause-sent
returns-clause-sent c = sent_behind
