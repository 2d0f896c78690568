use Rattle.std.proofs.Common.{◌≡◌, drop, map}
use Rattle.sql_tree.specs.Plain.{change_of}
use Rattle.sql_eval.specs.Faults.{joined}
use Rattle.sql_eval.specs.Totals.{looked_at}
use Rattle.found_rows.specs.Evaluation.{env_of}
use Rattle.server_words.specs.Found.{row_faults}
use Rattle.server_words.specs.Writes.{sources}
use Rattle.statement_acts.proofs.updating.all_faults.Given as goal

abbrev pub invariant-loop-image : goal.invariant-loop-image
invariant-loop-image l = joined l.faults (row_faults (env_of l.with) (sources (map change_of l.settings)) (looked_at (drop l.image-index l.found))) ≡ joined l.initial.faults (row_faults (env_of l.with) (sources (map change_of l.settings)) (looked_at l.found))
