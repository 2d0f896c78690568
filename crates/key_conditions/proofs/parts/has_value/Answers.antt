use Rattle.std.proofs.Common.{Err, List, sym, ap, ◌∙◌}
use Rattle.std.specs.Result.{is_ok}
use Rattle.desk_values.specs.declared.value.Value.{Value}
use Rattle.sql_tree.specs.Plain.{term_of}
use Rattle.sql_eval.specs.Value.{value_of}
use Rattle.key_conditions.proofs.parts.has_value.Goals as goal

pub returns : goal.returns
returns c =
    sym (ap is_ok (ap (λ (values : List Value). value_of c.args.level 0 values c.args.binds.now (term_of c.args.e.now)) (sym c.new.ensures)
    ∙ (c.in-Err-Refused.ensures.refused c.in-Err-Refused.field-0-0).0 (ap Err c.in-Err-Refused.field-0-is)))
