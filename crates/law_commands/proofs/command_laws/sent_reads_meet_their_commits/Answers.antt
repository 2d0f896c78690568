use Rattle.law_commands.proofs.Commands.Ends.{sent_reads_meet}
use Rattle.law_commands.proofs.command_laws.sent_reads_meet_their_commits.Goals as goal

pub returns : goal.returns
returns c = sent_reads_meet
