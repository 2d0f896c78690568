use Rattle.std.proofs.Common.{◌≡◌, take, length}
use Rattle.desk_values.proofs.same.same_items.Given as goal

abbrev pub invariant-loop-i : goal.invariant-loop-i
invariant-loop-i g l = record { front : take l.i l.left ≡ take l.i l.right; length : length l.left ≡ length l.right }
