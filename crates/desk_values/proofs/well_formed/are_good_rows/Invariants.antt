use Rattle.std.proofs.Common.{drop}
use Rattle.std.specs.Prelude.{◌↔◌}
use Rattle.std.specs.List.{AllByRecursion}
use Rattle.desk_values.specs.Good.{IsGoodRow, HasValues}
use Rattle.desk_values.proofs.well_formed.are_good_rows.Given as goal

abbrev pub invariant-loop-row : goal.invariant-loop-row
invariant-loop-row l = record {
  text : AllByRecursion IsGoodRow (drop l.row-index l.rows) ↔ AllByRecursion IsGoodRow l.rows;
  shape : AllByRecursion HasValues (drop l.row-index l.rows) ↔ AllByRecursion HasValues l.rows;
}
