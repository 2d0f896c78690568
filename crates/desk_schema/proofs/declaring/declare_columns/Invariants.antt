use Rattle.std.proofs.Common.{◌≡◌, drop, map}
use Rattle.desk_schema.specs.Start.{column_line}
use Rattle.desk_schema.proofs.LinesSaid.{IsOnTheWay}
use Rattle.desk_schema.proofs.declaring.declare_columns.Given as goal

abbrev pub invariant-loop-column : goal.invariant-loop-column
invariant-loop-column l = record {
  way : IsOnTheWay l.initial.draft (map (column_line l.initial.draft.start.schema.sequences) l.columns) l.draft (map (column_line l.initial.draft.start.schema.sequences) (drop l.column-index l.columns));
  names : l.draft.start.schema.sequences ≡ l.initial.draft.start.schema.sequences;
}
