use Rattle.std.proofs.Common.{◌≡◌, ℕ, drop, map}
use Rattle.sql_tree.specs.declared.tree.Setting.{Setting}
use Rattle.sql_tree.specs.Plain.{term_of}
use Rattle.sql_eval.specs.Faults.{any_fault, joined}
use Rattle.found_rows.specs.Evaluation.{env_of}
use Rattle.server_words.specs.Found.{value_in}
use Rattle.statement_acts.proofs.updating.setting_faults.Given as goal

abbrev pub invariant-loop-setting : goal.invariant-loop-setting
invariant-loop-setting l = joined l.faults (any_fault (value_in (env_of l.with) l.image) (map (λ (s : Setting ℕ). term_of s.to) (drop l.setting-index l.settings))) ≡ joined l.initial.faults (any_fault (value_in (env_of l.with) l.image) (map (λ (s : Setting ℕ). term_of s.to) l.settings))
