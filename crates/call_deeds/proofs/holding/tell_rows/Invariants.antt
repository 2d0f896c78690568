use Rattle.std.proofs.Common.{[], take}
use Rattle.hold_index.specs.Told.{RowsMove}
use Rattle.call_deeds.proofs.holding.tell_rows.Given as goal

abbrev pub invariant-loop-row : goal.invariant-loop-row
invariant-loop-row l = RowsMove l.fn.holds l.holds l.session [] (take l.row-index l.rows)
