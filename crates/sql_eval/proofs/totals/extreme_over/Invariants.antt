use Rattle.std.proofs.Common.{◌≡◌, drop}
use Rattle.std.specs.Option.{option_copied}
use Rattle.std.specs.List.{cons_option, filter_map, reduce}
use Rattle.sql_eval.specs.Faults.{any_fault, joined}
use Rattle.sql_tree.specs.Plain.{term_of}
use Rattle.sql_eval.specs.Totals.{part_in, looked_at, members, number_in, number_order, text_in, tied_order, first_of}
use Rattle.sql_eval.proofs.totals.extreme_over.Given as goal

abbrev pub invariant-loop-row : goal.invariant-loop-row
invariant-loop-row l = record {
  faults : joined l.faults (any_fault (part_in l.level l.binds (term_of l.part)) (looked_at (drop l.row-index l.rows))) ≡ any_fault (part_in l.level l.binds (term_of l.part)) (looked_at l.rows);
  number : reduce (first_of (number_order l.extreme)) (cons_option l.number (filter_map number_in (members (part_in l.level l.binds (term_of l.part)) (looked_at (drop l.row-index l.rows))))) ≡ reduce (first_of (number_order l.extreme)) (filter_map number_in (members (part_in l.level l.binds (term_of l.part)) (looked_at l.rows)));
  text : reduce (first_of (tied_order l.level l.extreme)) (cons_option (option_copied l.text) (filter_map text_in (members (part_in l.level l.binds (term_of l.part)) (looked_at (drop l.row-index l.rows))))) ≡ reduce (first_of (tied_order l.level l.extreme)) (filter_map text_in (members (part_in l.level l.binds (term_of l.part)) (looked_at l.rows)));
}
