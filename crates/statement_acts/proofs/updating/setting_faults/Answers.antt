use Rattle.std.proofs.Common.{◌≡◌, ℕ, List, [], ◌∷◌, map, ap, refl, ◌∙◌, arith}
use Rattle.sql_tree.specs.declared.tree.Setting.{Setting}
use Rattle.sql_tree.specs.Plain.{Term, change_of, term_of}
use Rattle.sql_eval.specs.Faults.{any_fault, joined}
use Rattle.found_rows.specs.Evaluation.{env_of}
use Rattle.server_words.specs.Found.{value_in}
use Rattle.server_words.specs.Writes.{sources}
use Rattle.found_rows.proofs.Adding.{fault_step, fault_end}
use Rattle.statement_acts.proofs.updating.setting_faults.Goals as goal

-- the new value of a column
abbrev to : Setting ℕ → Term ℕ
to s = term_of s.to

sources_are : (settings : List (Setting ℕ)) → map to settings ≡ sources (map change_of settings)
sources_are [] = refl
sources_are (s ∷ settings) = ap (λ es. to s ∷ es) (sources_are settings)

pub loop-setting-preserved : goal.loop-setting-preserved
loop-setting-preserved c =
    fault_step to c.args.settings.now c.loop-setting.setting-index (value_in (env_of c.args.with) c.args.image.now) c.loop-setting.faults _ c.loop-setting.invariant
    c.in_ok-all.all c.setting-item.result (omega arith) c.setting-item.is (rw c.values_of-own.ensures at c.in_ok-all.ensures.faults)

pub returns : goal.returns
returns c =
    let part = value_in (env_of c.args.with) c.args.image.now in
    fault_end to c.args.settings.now c.loop-setting.setting-index part c.loop-setting.faults _ c.loop-setting.invariant (omega arith) ∙ ap (λ es. joined c.args.faults (any_fault part es)) (sources_are c.args.settings.now)
