use Rattle.std.proofs.Common.{arith}
use Rattle.sql_tree.specs.Plain.{total_of}
use Rattle.sql_eval.specs.Totals.{looked_at}
use Rattle.found_rows.specs.Evaluation.{env_of}
use Rattle.server_words.specs.Answer.{total_in}
use Rattle.found_rows.proofs.Adding.{fault_step}
use Rattle.statement_acts.proofs.selecting.total_faults.Goals as goal

pub loop-agg-preserved : goal.loop-agg-preserved
loop-agg-preserved c = fault_step total_of c.args.aggs.now c.loop-agg.agg-index (total_in (env_of c.args.with) (looked_at c.args.found.now)) c.loop-agg.faults _ c.loop-agg.invariant c.in_ok-all.all c.agg-item.result (omega arith) c.agg-item.is c.in_ok-all.ensures.faults
