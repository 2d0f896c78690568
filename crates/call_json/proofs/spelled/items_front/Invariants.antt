use Rattle.std.proofs.Common.{◌≡◌, ◌++◌, length}
use Rattle.std.specs.List.{flat_map}
use Rattle.call_json.proofs.SpelledTexts.{led}
use Rattle.call_json.proofs.spelled.items_front.Given as goal

-- what is read so far, and what is left to read
abbrev pub invariant-loop-item : goal.invariant-loop-item
invariant-loop-item g l = l.bytes ≡ flat_map (led g.T.Spelled.meaning) l.items ++ l.rest

abbrev pub decreases-loop-item : goal.decreases-loop-item
decreases-loop-item g l = length l.rest
