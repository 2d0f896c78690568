use Rattle.law_commands.proofs.Commands.Headline.{kept_promise}
use Rattle.law_commands.proofs.command_laws.headline.Goals as goal

pub returns : goal.returns
returns c = kept_promise
