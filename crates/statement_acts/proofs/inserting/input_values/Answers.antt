use Rattle.std.proofs.Common.{arith, ℕ, refl, ap, ◌∙◌}
use Rattle.sql_tree.specs.Plain.{Entry, entry_of}
use Rattle.found_rows.specs.Evaluation.{env_of}
use Rattle.server_words.specs.Found.{sound}
use Rattle.server_words.specs.Writes.{input_value, stored}
use Rattle.found_rows.proofs.Adding.{fault_step, fault_end, none_joined, value_step}
use Rattle.statement_acts.proofs.inserting.input_values.Goals as goal

pub loop-input-init : goal.loop-input-init
loop-input-init c = record { values = rw c.new-values.ensures refl; faults = none_joined _ }

pub loop-input-preserved : goal.loop-input-preserved
loop-input-preserved c = record {
  values = value_step (entry_of {N = ℕ}) c.args.inputs.now c.loop-input.input-index (λ (entry : Entry ℕ). stored c.args.with.level (sound (input_value (env_of c.args.with) c.args.draws.now entry))) c.loop-input.values _ c.loop-input.invariant.values
      c.push.new.self c.stored.result c.input-item.result (omega arith) c.input-item.is (c.stored.ensures ∙ ap (stored c.args.with.level) c.in_ok-value.ensures.value) c.in_ok-push.ensures.ok;
  faults = fault_step (entry_of {N = ℕ}) c.args.inputs.now c.loop-input.input-index (input_value (env_of c.args.with) c.args.draws.now) c.loop-input.faults _ c.loop-input.invariant.faults
      c.in_ok-value.all c.input-item.result (omega arith) c.input-item.is c.in_ok-value.ensures.faults;
}

pub returns-clause-faults : goal.returns-clause-faults
returns-clause-faults c = fault_end (entry_of {N = ℕ}) c.args.inputs.now c.loop-input.input-index (input_value (env_of c.args.with) c.args.draws.now) c.loop-input.faults _ c.loop-input.invariant.faults (omega arith)
