use Rattle.std.proofs.Common.{drop, map}
use Rattle.desk_schema.specs.Start.{row_line}
use Rattle.desk_schema.proofs.LinesSaid.{IsOnTheWay}
use Rattle.desk_schema.proofs.declaring.declare_rows.Given as goal

abbrev pub invariant-loop-row : goal.invariant-loop-row
invariant-loop-row l = IsOnTheWay l.initial.draft (map row_line l.rows) l.draft (map row_line (drop l.row-index l.rows))
