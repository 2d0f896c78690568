use Rattle.std.proofs.Common.{◌≡◌, drop}
use Rattle.std.specs.Prelude.{◌↔◌}
use Rattle.std.specs.List.{AllByRecursion}
use Rattle.desk_values.specs.Good.{IsGoodDraw, IsDraw}
use Rattle.desk_values.specs.Good.{all_draws}
use Rattle.desk_values.proofs.well_formed.all_draws.Given as goal

abbrev pub invariant-loop-value : goal.invariant-loop-value
invariant-loop-value l = record {
  value : all_draws (drop l.value-index l.values) ≡ all_draws l.values;
  fact : AllByRecursion IsGoodDraw (drop l.value-index l.values) ↔ AllByRecursion IsGoodDraw l.values;
  shape : AllByRecursion IsDraw (drop l.value-index l.values) ↔ AllByRecursion IsDraw l.values;
}
