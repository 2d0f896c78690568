use Rattle.std.proofs.Common.{◌≡◌, drop}
use Rattle.desk_values.specs.Sorting.{value_by_value}
use Rattle.desk_values.proofs.sorting.value_by_value.Given as goal

abbrev pub invariant-loop-i : goal.invariant-loop-i
invariant-loop-i l = value_by_value (drop l.i l.a) (drop l.i l.b) ≡ value_by_value l.a l.b
