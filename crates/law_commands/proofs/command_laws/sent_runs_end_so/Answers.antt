use Rattle.law_commands.proofs.Commands.Sent.{sent_runs_end}
use Rattle.law_commands.proofs.command_laws.sent_runs_end_so.Goals as goal

pub returns : goal.returns
returns c = sent_runs_end
