use Rattle.std.proofs.Common.{◌≡◌, take, Some}
use Rattle.id_pairs.specs.Carrying.Carried.{each_some}
use Rattle.divergence.proofs.carry.ListCarry.carry.Given as goal

abbrev pub invariant-loop-item : goal.invariant-loop-item
invariant-loop-item g l = each_some (g.T.Carry.carried l.map.pairs) (take l.item-index l.item-items) ≡ Some l.carried
