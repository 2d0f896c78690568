use Rattle.std.proofs.Common.{◌≡◌, drop, map}
use Rattle.sql_tree.specs.Plain.{change_of}
use Rattle.sql_eval.specs.Totals.{values_in}
use Rattle.found_rows.specs.Evaluation.{env_of}
use Rattle.server_words.specs.Writes.{assigned, set_values, targets}
use Rattle.statement_acts.proofs.updating.updated.Given as goal

abbrev pub invariant-loop-setting : goal.invariant-loop-setting
invariant-loop-setting l =
    assigned l.values.items (targets (map change_of (drop l.setting-index l.settings))) (set_values (env_of l.with) (map change_of (drop l.setting-index l.settings)) l.image)
    ≡ assigned (values_in l.image) (targets (map change_of l.settings)) (set_values (env_of l.with) (map change_of l.settings) l.image)
