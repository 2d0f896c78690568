use Rattle.std.proofs.Common.{sym, ap, ◌∙◌}
use Rattle.std.specs.Prelude.{Ok, List}
use Rattle.std.specs.Option.{option_copied}
use Rattle.std.specs.List.{filter_map, reduce}
use Rattle.desk_values.specs.declared.value.Value.{Value}
use Rattle.sql_tree.specs.Plain.{term_of}
use Rattle.sql_eval.specs.Totals.{extreme_of, first_of, first_value, looked_at, members, number_in, number_order, part_in, text_in, tied_order}
use Rattle.sql_eval.proofs.TotalSteps.{all_chosen, all_noted, chosen_row, noted_row, told_over, untold_over}
use Rattle.sql_eval.proofs.totals.extreme_over.Goals as goal

pub loop-row-preserved : goal.loop-row-preserved
loop-row-preserved c = record {
  faults = noted_row (part_in c.args.level c.args.binds.now (term_of c.args.part.now)) c.args.rows.now c.loop-row.row-index _ _ _ c.row-item.result c.loop-row-test.true c.row-item.is c.part_value-outcome.ensures c.with_fault-faults.ensures c.loop-row.invariant.faults;
  number = chosen_row (part_in c.args.level c.args.binds.now (term_of c.args.part.now)) c.args.rows.now c.loop-row.row-index (first_of (number_order c.args.extreme)) number_in _ _ _ c.row-item.result c.loop-row-test.true c.row-item.is c.part_value-outcome.ensures c.with_first_number-number.ensures c.loop-row.invariant.number;
  text = chosen_row (part_in c.args.level c.args.binds.now (term_of c.args.part.now)) c.args.rows.now c.loop-row.row-index (first_of (tied_order c.args.level c.args.extreme)) text_in _ _ _ c.row-item.result c.loop-row-test.true c.row-item.is c.part_value-outcome.ensures c.with_first_text-text.ensures c.loop-row.invariant.text;
}

pub returns-in-Some : goal.returns-in-Some
returns-in-Some c = sym (told_over (part_in c.args.level c.args.binds.now (term_of c.args.part.now)) c.args.rows.now c.loop-row.row-index (λ (values : List Value). Ok (extreme_of c.args.level c.args.extreme values)) _ _ (all_noted (part_in c.args.level c.args.binds.now (term_of c.args.part.now)) c.args.rows.now c.loop-row.row-index _ c.loop-row-test.false c.loop-row.invariant.faults) c.in-Some.ensures)

pub returns-in-None : goal.returns-in-None
unfolding extreme_of
returns-in-None c =
    ap Ok
    (c.told_value.ensures
    ∙ ap (λ n. first_value n (option_copied c.loop-row.text)) (all_chosen (part_in c.args.level c.args.binds.now (term_of c.args.part.now)) c.args.rows.now c.loop-row.row-index (first_of (number_order c.args.extreme)) number_in _ c.loop-row-test.false c.loop-row.invariant.number)
    ∙ ap (first_value (reduce (first_of (number_order c.args.extreme)) (filter_map number_in (members (part_in c.args.level c.args.binds.now (term_of c.args.part.now)) (looked_at c.args.rows.now))))) (all_chosen (part_in c.args.level c.args.binds.now (term_of c.args.part.now)) c.args.rows.now c.loop-row.row-index (first_of (tied_order c.args.level c.args.extreme)) text_in _ c.loop-row-test.false c.loop-row.invariant.text))
    ∙ sym (untold_over (part_in c.args.level c.args.binds.now (term_of c.args.part.now)) c.args.rows.now c.loop-row.row-index (λ (values : List Value). Ok (extreme_of c.args.level c.args.extreme values)) _ (all_noted (part_in c.args.level c.args.binds.now (term_of c.args.part.now)) c.args.rows.now c.loop-row.row-index _ c.loop-row-test.false c.loop-row.invariant.faults) c.in-None.ensures)
