use Rattle.std.proofs.Common.{arith, ◌∙◌, ap}
use denote.Ref.{Bor}
use Rattle.desk_values.specs.declared.value.Image.{Image}
use Rattle.sql_tree.specs.Plain.{term_of}
use Rattle.sql_eval.specs.Faults.{noted}
use Rattle.sql_eval.specs.Totals.{looked_at}
use Rattle.found_rows.specs.Evaluation.{env_of}
use Rattle.server_words.specs.Found.{is_true, truth_in}
use Rattle.found_rows.proofs.Adding.{fault_step, fault_end, filter_step}
use Rattle.found_rows.proofs.found.sifted_by.Goals as goal

pub loop-image-preserved : goal.loop-image-preserved
loop-image-preserved c =
    let now : Bor Image → Image = λ (image : Bor Image). image.now in
    let truth = truth_in (env_of c.args.with) (term_of c.args.condition.now) in
    record {
      rows = filter_step now c.args.rows.now c.loop-image.image-index (λ (image : Image). is_true (truth image)) (looked_at c.loop-image.found.items) _ c.loop-image.invariant.rows
          (looked_at c.keep_true.new.found.items) c.image-item.result (omega arith) c.image-item.is (rw (← c.truth_in-truth.ensures) c.in_ok-keep_true.ensures);
      faults = fault_step now c.args.rows.now c.loop-image.image-index truth c.loop-image.faults _ c.loop-image.invariant.faults
          c.with_truth-faults.result c.image-item.result (omega arith) c.image-item.is (c.with_truth-faults.ensures ∙ ap (noted c.loop-image.faults) c.truth_in-truth.ensures);
    }

pub returns-clause-faults : goal.returns-clause-faults
returns-clause-faults c = fault_end (λ (image : Bor Image). image.now) c.args.rows.now c.loop-image.image-index (truth_in (env_of c.args.with) (term_of c.args.condition.now)) c.loop-image.faults _ c.loop-image.invariant.faults (omega arith)
