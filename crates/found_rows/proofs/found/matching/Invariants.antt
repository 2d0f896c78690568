use Rattle.std.proofs.Common.{◌≡◌, ◌++◌, drop}
use Rattle.sql_tree.specs.Plain.{condition_of}
use Rattle.sql_eval.specs.Totals.{looked_at}
use Rattle.found_rows.specs.Evaluation.{env_of}
use Rattle.server_words.specs.Found.{matching}
use Rattle.found_rows.proofs.found.matching.Given as goal

abbrev pub invariant-loop-image : goal.invariant-loop-image
invariant-loop-image l = looked_at l.found.items ++ matching (env_of l.with) (condition_of l.condition) (looked_at (drop l.image-index l.rows)) ≡ matching (env_of l.with) (condition_of l.condition) (looked_at l.rows)
