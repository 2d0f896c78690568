use Rattle.std.proofs.Common.{arith, ℕ, map}
use denote.Ref.{Bor}
use Rattle.desk_values.specs.declared.value.Image.{Image}
use Rattle.sql_tree.specs.Plain.{change_of}
use Rattle.sql_eval.specs.Faults.{any_fault}
use Rattle.found_rows.specs.Evaluation.{env_of}
use Rattle.server_words.specs.Found.{value_in}
use Rattle.server_words.specs.Writes.{sources}
use Rattle.found_rows.proofs.Adding.{faults_step, faults_end}
use Rattle.statement_acts.proofs.updating.all_faults.Goals as goal

pub loop-image-preserved : goal.loop-image-preserved
loop-image-preserved c =
    faults_step (λ (image : Bor Image). image.now) c.args.found.now c.loop-image.image-index (λ (image : Image). any_fault (value_in (env_of c.args.with) image) (sources (map (change_of {N = ℕ}) c.args.settings.now))) c.loop-image.faults _ c.loop-image.invariant
    c.in_ok-faults.faults c.image-item.result (omega arith) c.image-item.is c.in_ok-faults.ensures

pub returns : goal.returns
returns c = faults_end (λ (image : Bor Image). image.now) c.args.found.now c.loop-image.image-index (λ (image : Image). any_fault (value_in (env_of c.args.with) image) (sources (map (change_of {N = ℕ}) c.args.settings.now))) c.loop-image.faults _ c.loop-image.invariant (omega arith)
