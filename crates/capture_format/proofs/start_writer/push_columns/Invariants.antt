use Rattle.std.proofs.Common.{◌≡◌, ◌++◌, drop, map}
use Rattle.desk_schema.specs.Line.{lines_text}
use Rattle.desk_schema.specs.Start.{column_line}
use Rattle.capture_format.proofs.start_writer.push_columns.Given as goal

abbrev pub invariant-loop-column : goal.invariant-loop-column
invariant-loop-column l = l.to ++ lines_text (map (column_line l.sequences) (drop l.column-index l.columns)) ≡ l.initial.to ++ lines_text (map (column_line l.sequences) l.columns)
