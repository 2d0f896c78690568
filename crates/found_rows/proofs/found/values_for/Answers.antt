use Rattle.std.proofs.Common.{arith, ℕ}
use Rattle.sql_tree.specs.Plain.{Term, term_of}
use Rattle.found_rows.specs.Evaluation.{env_of}
use Rattle.server_words.specs.Found.{sound, value_in}
use Rattle.found_rows.proofs.Adding.{fault_step, fault_end, value_step}
use Rattle.found_rows.proofs.found.values_for.Goals as goal

pub loop-expr-preserved : goal.loop-expr-preserved
loop-expr-preserved c = record {
  values = value_step term_of c.args.exprs.now c.loop-expr.expr-index (λ (e : Term ℕ). sound (value_in (env_of c.args.with) c.args.image.now e)) c.loop-expr.values _ c.loop-expr.invariant.values
      c.push.new.self c.in_ok-value.value c.expr-item.result (omega arith) c.expr-item.is (rw c.values_of-own.ensures at c.in_ok-value.ensures.value) c.in_ok-push.ensures.ok;
  faults = fault_step term_of c.args.exprs.now c.loop-expr.expr-index (value_in (env_of c.args.with) c.args.image.now) c.loop-expr.faults _ c.loop-expr.invariant.faults
      c.in_ok-value.all c.expr-item.result (omega arith) c.expr-item.is (rw c.values_of-own.ensures at c.in_ok-value.ensures.faults);
}

pub returns-clause-faults : goal.returns-clause-faults
returns-clause-faults c = fault_end term_of c.args.exprs.now c.loop-expr.expr-index (value_in (env_of c.args.with) c.args.image.now) c.loop-expr.faults _ c.loop-expr.invariant.faults (omega arith)
