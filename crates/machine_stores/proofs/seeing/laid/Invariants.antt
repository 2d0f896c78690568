use Rattle.std.proofs.Common.{◌≡◌, ◌-◌, ◌≤◌, ◌++◌, length, drop}
use Rattle.server_words.specs.Rows.{IsRising, lay}
use Rattle.sql_eval.specs.Totals.{looked_at}
use Rattle.machine_stores.proofs.seeing.laid.Given as goal

abbrev pub invariant-loop-change : goal.invariant-loop-change
invariant-loop-change l = record {
  within : l.at ≤ length l.rows;
  rising : IsRising (looked_at (drop l.change-index l.changes));
  laid : looked_at l.seen.items ++ lay (looked_at (drop l.at l.rows)) (looked_at (drop l.change-index l.changes)) ≡ lay (looked_at l.rows) (looked_at l.changes);
}

abbrev pub invariant-loop-at : goal.invariant-loop-at
invariant-loop-at l = record {
  within : l.at ≤ length l.rows;
  laid : looked_at l.seen.items ++ lay (looked_at (drop l.at l.rows)) (looked_at (drop l.change-index l.changes)) ≡ lay (looked_at l.rows) (looked_at l.changes);
}

abbrev pub decreases-loop-at : goal.decreases-loop-at
decreases-loop-at l = length l.rows - l.at

abbrev pub invariant-loop-at-2 : goal.invariant-loop-at-2
invariant-loop-at-2 l = record {
  within : l.at ≤ length l.rows;
  laid : looked_at l.seen.items ++ looked_at (drop l.at l.rows) ≡ lay (looked_at l.rows) (looked_at l.changes);
}

abbrev pub decreases-loop-at-2 : goal.decreases-loop-at-2
decreases-loop-at-2 l = length l.rows - l.at
