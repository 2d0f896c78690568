use Rattle.std.proofs.Common.{drop}
use Rattle.std.specs.Prelude.{◌↔◌}
use Rattle.std.specs.List.{AllByRecursion}
use Rattle.desk_values.specs.Good.{IsValue}
use Rattle.call_json.proofs.knowing.has_values.Given as goal

abbrev pub invariant-loop-value : goal.invariant-loop-value
invariant-loop-value l = AllByRecursion IsValue (drop l.value-index l.values) ↔ AllByRecursion IsValue l.values
