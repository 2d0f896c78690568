use Rattle.std.proofs.Common.{length}
use Rattle.found_rows.proofs.images.+some_too_long.Given as goal

abbrev pub decreases-some_too_long : goal.decreases-some_too_long
decreases-some_too_long l = length l.columns.now
