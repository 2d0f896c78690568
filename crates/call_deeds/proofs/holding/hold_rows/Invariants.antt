use Rattle.std.proofs.Common.{◌≡◌, ◌++◌, ℕ, List, drop}
use Rattle.hold_index.specs.Told.{RowsMove}
use Rattle.server_words.specs.Writes.{with_rows}
use Rattle.call_deeds.proofs.holding.hold_rows.Given as goal

abbrev pub invariant-loop-row : goal.invariant-loop-row
invariant-loop-row l = record {
  rows : with_rows l.held (drop l.row-index l.rows) ≡ with_rows l.fn.held l.rows;
  front : (more : List ℕ) × (l.held ≡ l.fn.held ++ more);
  told : RowsMove l.fn.holds l.holds l.session l.fn.held l.held;
}
