use Rattle.std.proofs.Common.{◌≡◌, ◌++◌, drop, map}
use Rattle.sql_tree.specs.Plain.{term_of}
use Rattle.sql_eval.specs.Totals.{looked_at}
use Rattle.found_rows.specs.Evaluation.{env_of}
use Rattle.server_words.specs.Found.{values_for}
use Rattle.statement_acts.proofs.selecting.value_rows.Given as goal

abbrev pub invariant-loop-image : goal.invariant-loop-image
invariant-loop-image l = l.rows ++ map (values_for (env_of l.with) (map term_of l.exprs)) (looked_at (drop l.image-index l.found)) ≡ map (values_for (env_of l.with) (map term_of l.exprs)) (looked_at l.found)
