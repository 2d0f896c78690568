use Rattle.law_commands.proofs.Commands.Served.{served_legal, served_prepared, served_replayed}
use Rattle.law_commands.proofs.Commands.Sizes.{served_not_bad, served_not_bad_to_prepare}
use Rattle.law_commands.proofs.command_laws.served_captures_are_legal.Goals as goal

pub returns-clause-legal : goal.returns-clause-legal
returns-clause-legal c = served_legal

pub returns-clause-replayed : goal.returns-clause-replayed
returns-clause-replayed c = served_replayed

pub returns-clause-prepared : goal.returns-clause-prepared
returns-clause-prepared c = served_prepared

pub returns-clause-not_bad : goal.returns-clause-not_bad
returns-clause-not_bad c = served_not_bad

pub returns-clause-not_bad_to_prepare : goal.returns-clause-not_bad_to_prepare
returns-clause-not_bad_to_prepare c = served_not_bad_to_prepare
