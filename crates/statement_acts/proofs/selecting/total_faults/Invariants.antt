use Rattle.std.proofs.Common.{◌≡◌, drop, map}
use Rattle.sql_tree.specs.Plain.{total_of}
use Rattle.sql_eval.specs.Faults.{any_fault, joined}
use Rattle.sql_eval.specs.Totals.{looked_at}
use Rattle.found_rows.specs.Evaluation.{env_of}
use Rattle.server_words.specs.Answer.{total_in}
use Rattle.statement_acts.proofs.selecting.total_faults.Given as goal

abbrev pub invariant-loop-agg : goal.invariant-loop-agg
invariant-loop-agg l = joined l.faults (any_fault (total_in (env_of l.with) (looked_at l.found)) (map total_of (drop l.agg-index l.aggs))) ≡ any_fault (total_in (env_of l.with) (looked_at l.found)) (map total_of l.aggs)
