use Rattle.std.proofs.Common.{◌≡◌, ◌++◌, drop}
use Rattle.twin_tables.proofs.sets.copies.Given as goal

abbrev pub invariant-loop-item : goal.invariant-loop-item
invariant-loop-item g l = l.copies.items ++ drop l.item-index l.items ≡ l.items
