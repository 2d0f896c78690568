use Rattle.std.proofs.Common.{length}
use Rattle.found_rows.proofs.images.+some_missing.Given as goal

abbrev pub decreases-some_missing : goal.decreases-some_missing
decreases-some_missing l = length l.columns.now
