use Rattle.std.proofs.Common.{length}
use Rattle.found_rows.proofs.images.+some_out_of_range.Given as goal

abbrev pub decreases-some_out_of_range : goal.decreases-some_out_of_range
decreases-some_out_of_range l = length l.columns.now
