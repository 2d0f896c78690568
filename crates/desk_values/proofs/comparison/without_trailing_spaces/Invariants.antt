use Rattle.std.proofs.Common.{◌≡◌, length, reverse}
use Rattle.desk_values.specs.Comparison.{skip_spaces}
use Rattle.desk_values.proofs.comparison.without_trailing_spaces.Given as goal

abbrev pub invariant-loop-bytes : goal.invariant-loop-bytes
invariant-loop-bytes l = skip_spaces (reverse l.bytes) ≡ skip_spaces (reverse l.fn.bytes)

abbrev pub decreases-loop-bytes : goal.decreases-loop-bytes
decreases-loop-bytes l = length l.bytes
