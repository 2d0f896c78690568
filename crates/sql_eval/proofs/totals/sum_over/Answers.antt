use Rattle.std.proofs.Common.{sym, ap, ◌∙◌, arith}
use Rattle.std.specs.Prelude.{◌+ℤ◌}
use Rattle.std.proofs.lemmas.Int.{ints}
use Rattle.sql_tree.specs.Plain.{term_of}
use Rattle.sql_eval.specs.Totals.{number_in, part_in, sum_of, sum_value}
use Rattle.sql_eval.proofs.TotalSteps.{all_chosen, all_noted, chosen_row, noted_row, told_over, untold_over}
use Rattle.sql_eval.proofs.totals.sum_over.Goals as goal

pub loop-row-preserved : goal.loop-row-preserved
loop-row-preserved c = record {
  faults = noted_row (part_in c.args.level c.args.binds.now (term_of c.args.part.now)) c.args.rows.now c.loop-row.row-index _ _ _ c.row-item.result c.loop-row-test.true c.row-item.is c.part_value-outcome.ensures c.with_fault-faults.ensures c.loop-row.invariant.faults;
  sum = chosen_row (part_in c.args.level c.args.binds.now (term_of c.args.part.now)) c.args.rows.now c.loop-row.row-index ◌+ℤ◌ number_in _ _ _ c.row-item.result c.loop-row-test.true c.row-item.is c.part_value-outcome.ensures c.with_number-sum.ensures.sum c.loop-row.invariant.sum;
  low = omega (arith, ints);
  high = omega (arith, ints);
}

pub returns-in-Some : goal.returns-in-Some
returns-in-Some c = sym (told_over (part_in c.args.level c.args.binds.now (term_of c.args.part.now)) c.args.rows.now c.loop-row.row-index sum_of _ _ (all_noted (part_in c.args.level c.args.binds.now (term_of c.args.part.now)) c.args.rows.now c.loop-row.row-index _ c.loop-row-test.false c.loop-row.invariant.faults) c.in-Some.ensures)

pub returns-in-None : goal.returns-in-None
unfolding sum_of
returns-in-None c =
    c.summed.ensures
    ∙ ap sum_value (all_chosen (part_in c.args.level c.args.binds.now (term_of c.args.part.now)) c.args.rows.now c.loop-row.row-index ◌+ℤ◌ number_in _ c.loop-row-test.false c.loop-row.invariant.sum)
    ∙ sym (untold_over (part_in c.args.level c.args.binds.now (term_of c.args.part.now)) c.args.rows.now c.loop-row.row-index sum_of _ (all_noted (part_in c.args.level c.args.binds.now (term_of c.args.part.now)) c.args.rows.now c.loop-row.row-index _ c.loop-row-test.false c.loop-row.invariant.faults) c.in-None.ensures)
