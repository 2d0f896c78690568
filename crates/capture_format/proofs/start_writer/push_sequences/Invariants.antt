use Rattle.std.proofs.Common.{◌≡◌, ◌++◌, drop, length}
use Rattle.desk_schema.specs.Line.{lines_text}
use Rattle.desk_schema.specs.Start.{sequence_lines}
use Rattle.capture_format.proofs.start_writer.push_sequences.Given as goal

abbrev pub invariant-loop-name : goal.invariant-loop-name
invariant-loop-name l = l.to ++ lines_text (sequence_lines (drop (length l.yielded) l.names) (drop (length l.yielded) l.nexts)) ≡ l.initial.to ++ lines_text (sequence_lines l.names l.nexts)
