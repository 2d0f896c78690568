use Rattle.std.proofs.Common.{◌≡◌, take, Some}
use Rattle.id_pairs.specs.Carrying.Carried.{carried_value, each_some}
use Rattle.twin_tables.proofs.sets.carried_values.Given as goal

abbrev pub invariant-loop-value : goal.invariant-loop-value
invariant-loop-value l = each_some (carried_value l.map.pairs) (take l.value-index l.value-items) ≡ Some l.carried
