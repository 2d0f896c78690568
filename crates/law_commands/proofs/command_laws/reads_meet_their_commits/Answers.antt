use Rattle.law_commands.proofs.Commands.Ends.{reads_meet}
use Rattle.law_commands.proofs.command_laws.reads_meet_their_commits.Goals as goal

pub returns : goal.returns
returns c = reads_meet
