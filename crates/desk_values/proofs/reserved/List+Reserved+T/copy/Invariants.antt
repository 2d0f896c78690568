use Rattle.std.proofs.Common.{◌≡◌, map, take}
use Rattle.desk_values.proofs.reserved.List+Reserved+T.copy.Given as goal

abbrev pub invariant-loop-list : goal.invariant-loop-list
invariant-loop-list g l = map (λ list. list.items) l.copy ≡ map (λ list. list.items) (take l.list-index l.list-items)
