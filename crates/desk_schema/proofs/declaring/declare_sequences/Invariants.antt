use Rattle.std.proofs.Common.{drop}
use Rattle.desk_schema.specs.Start.{sequence_lines}
use Rattle.desk_schema.proofs.LinesSaid.{IsOnTheWay}
use Rattle.desk_schema.proofs.declaring.declare_sequences.Given as goal

abbrev pub invariant-loop-i : goal.invariant-loop-i
invariant-loop-i l = IsOnTheWay l.initial.draft (sequence_lines l.names l.next_values) l.draft (sequence_lines (drop l.i l.names) (drop l.i l.next_values))
