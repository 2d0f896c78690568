use Rattle.desk_words.proofs.Limiting.{within_limits}
use Rattle.desk_words.proofs.words.command_of.Goals as goal

pub returns-in-Ok-clause-limits : goal.returns-in-Ok-clause-limits
returns-in-Ok-clause-limits c = rw c.in-Ok.ensures at (within_limits c.args.words.now)
