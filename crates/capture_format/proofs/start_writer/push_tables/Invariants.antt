use Rattle.std.proofs.Common.{◌≡◌, ◌++◌, drop}
use Rattle.std.specs.List.{flat_map}
use Rattle.desk_schema.specs.Line.{lines_text}
use Rattle.desk_schema.specs.Start.{table_lines}
use Rattle.capture_format.proofs.start_writer.push_tables.Given as goal

abbrev pub invariant-loop-table : goal.invariant-loop-table
invariant-loop-table l = l.to ++ lines_text (flat_map (table_lines l.sequences) (drop l.table-index l.tables)) ≡ l.initial.to ++ lines_text (flat_map (table_lines l.sequences) l.tables)
