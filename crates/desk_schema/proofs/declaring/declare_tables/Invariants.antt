use Rattle.std.proofs.Common.{◌≡◌, drop}
use Rattle.std.specs.List.{flat_map}
use Rattle.desk_schema.specs.Start.{table_lines}
use Rattle.desk_schema.proofs.LinesSaid.{IsOnTheWay}
use Rattle.desk_schema.proofs.declaring.declare_tables.Given as goal

abbrev pub invariant-loop-table : goal.invariant-loop-table
invariant-loop-table l = record {
  way : IsOnTheWay l.initial.draft (flat_map (table_lines l.initial.draft.start.schema.sequences) l.tables) l.draft (flat_map (table_lines l.initial.draft.start.schema.sequences) (drop l.table-index l.tables));
  names : l.draft.start.schema.sequences ≡ l.initial.draft.start.schema.sequences;
}
