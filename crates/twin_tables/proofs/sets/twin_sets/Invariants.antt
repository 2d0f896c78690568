use Rattle.std.proofs.Common.{◌≡◌, take, Some}
use Rattle.std.specs.List.{AllZip}
use Rattle.twin_tables.proofs.sets.twin_sets.Given as goal

abbrev pub invariant-loop-item : goal.invariant-loop-item
invariant-loop-item g l = AllZip (λ x y. g.T.Member.carried l.map.pairs x ≡ Some y) (take l.item-index l.items) l.carried.items
