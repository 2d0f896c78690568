use Rattle.std.proofs.Common.{◌≡◌, ◌++◌, drop, map}
use Rattle.sql_tree.specs.Plain.{entry_of}
use Rattle.sql_eval.specs.Faults.{any_fault, joined}
use Rattle.found_rows.specs.Evaluation.{env_of}
use Rattle.server_words.specs.Writes.{input_value, inputs_for}
use Rattle.statement_acts.proofs.inserting.input_values.Given as goal

abbrev pub invariant-loop-input : goal.invariant-loop-input
invariant-loop-input l = record {
  values : l.values ++ inputs_for (env_of l.with) l.draws (map entry_of (drop l.input-index l.inputs)) ≡ inputs_for (env_of l.with) l.draws (map entry_of l.inputs);
  faults : joined l.faults (any_fault (input_value (env_of l.with) l.draws) (map entry_of (drop l.input-index l.inputs))) ≡ any_fault (input_value (env_of l.with) l.draws) (map entry_of l.inputs);
}
