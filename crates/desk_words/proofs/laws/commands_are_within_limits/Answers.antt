use Rattle.desk_words.proofs.Limiting.{within_limits}
use Rattle.desk_words.proofs.laws.commands_are_within_limits.Goals as goal

pub returns : goal.returns
returns c = within_limits
