use Rattle.law_commands.proofs.Commands.Ends.{told_quiet}
use Rattle.law_commands.proofs.command_laws.told_is_quiet.Goals as goal

pub returns : goal.returns
returns c = told_quiet c.plain_reads_are_same.ensures c.unchanged_servers_upgrade_nothing.ensures
