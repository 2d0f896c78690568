use Rattle.std.proofs.Common.{◌≡◌, ◌*◌, ◌^◌, drop}
use Rattle.std.specs.Prelude.{pos, neg_ℤ, ◌≤ℤ◌, ◌+ℤ◌}
use Rattle.std.specs.Option.{unwrap_or}
use Rattle.std.specs.List.{cons_option, filter_map, reduce}
use Rattle.sql_eval.specs.Faults.{any_fault, joined}
use Rattle.sql_tree.specs.Plain.{term_of}
use Rattle.sql_eval.specs.Totals.{part_in, looked_at, members, number_in}
use Rattle.sql_eval.proofs.totals.sum_over.Given as goal

abbrev pub invariant-loop-row : goal.invariant-loop-row
invariant-loop-row l = record {
  faults : joined l.faults (any_fault (part_in l.level l.binds (term_of l.part)) (looked_at (drop l.row-index l.rows))) ≡ any_fault (part_in l.level l.binds (term_of l.part)) (looked_at l.rows);
  sum : reduce ◌+ℤ◌ (cons_option l.sum (filter_map number_in (members (part_in l.level l.binds (term_of l.part)) (looked_at (drop l.row-index l.rows))))) ≡ reduce ◌+ℤ◌ (filter_map number_in (members (part_in l.level l.binds (term_of l.part)) (looked_at l.rows)));
  low : neg_ℤ (pos (l.row-index * 2 ^ 63)) ≤ℤ unwrap_or l.sum (pos 0);
  high : unwrap_or l.sum (pos 0) ≤ℤ pos (l.row-index * 2 ^ 63);
}
