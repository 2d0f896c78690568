use Rattle.std.proofs.Common.{◌≡◌, ◌++◌, drop, Some}
use Rattle.sql_tree.specs.Plain.{term_of}
use Rattle.sql_eval.specs.Faults.{any_fault, joined}
use Rattle.sql_eval.specs.Totals.{looked_at}
use Rattle.found_rows.specs.Evaluation.{env_of}
use Rattle.server_words.specs.Found.{matching, truth_in}
use Rattle.found_rows.proofs.found.sifted_by.Given as goal

abbrev pub invariant-loop-image : goal.invariant-loop-image
invariant-loop-image l = record {
  rows : looked_at l.found.items ++ matching (env_of l.with) (Some (term_of l.condition)) (looked_at (drop l.image-index l.rows)) ≡ matching (env_of l.with) (Some (term_of l.condition)) (looked_at l.rows);
  faults : joined l.faults (any_fault (truth_in (env_of l.with) (term_of l.condition)) (looked_at (drop l.image-index l.rows))) ≡ any_fault (truth_in (env_of l.with) (term_of l.condition)) (looked_at l.rows);
}
