use Rattle.std.proofs.Common.{drop}
use Rattle.std.specs.Prelude.{◌↔◌}
use Rattle.std.specs.List.{AllByRecursion}
use Rattle.remap_ids.specs.Sent.{IsLow}
use Rattle.remap_ids.proofs.low_ids.are_low.Given as goal

abbrev pub invariant-loop-value : goal.invariant-loop-value
invariant-loop-value l = AllByRecursion IsLow (drop l.value-index l.values) ↔ AllByRecursion IsLow l.values
