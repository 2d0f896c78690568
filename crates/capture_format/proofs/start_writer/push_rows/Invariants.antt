use Rattle.std.proofs.Common.{◌≡◌, ◌++◌, drop, map}
use Rattle.desk_schema.specs.Line.{lines_text}
use Rattle.desk_schema.specs.Start.{row_line}
use Rattle.capture_format.proofs.start_writer.push_rows.Given as goal

abbrev pub invariant-loop-row : goal.invariant-loop-row
invariant-loop-row l = l.to ++ lines_text (map row_line (drop l.row-index l.rows)) ≡ l.initial.to ++ lines_text (map row_line l.rows)
