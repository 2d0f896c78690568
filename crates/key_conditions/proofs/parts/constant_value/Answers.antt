use Rattle.std.proofs.Common.{Bool, Err, List, [], None, sym, ap, if◌then◌else◌, ◌∙◌}
use Rattle.std.specs.Result.{result_ok}
use Rattle.desk_values.specs.declared.value.Value.{Value}
use Rattle.sql_tree.specs.Plain.{term_of}
use Rattle.sql_eval.specs.Value.{value_of}
use Rattle.key_conditions.proofs.parts.constant_value.Goals as goal

pub returns-in-Err-Refused : goal.returns-in-Err-Refused
returns-in-Err-Refused c =
    sym (ap (λ (is : Bool). if is then result_ok (value_of c.args.level 0 [] c.args.binds.now (term_of c.args.e.now)) else None) (sym c.is_constant.ensures ∙ c.if-not-is_constant.false)
    ∙ ap result_ok (ap (λ (values : List Value). value_of c.args.level 0 values c.args.binds.now (term_of c.args.e.now)) (sym c.new.ensures)
    ∙ (c.in-Err-Refused.ensures.refused c.in-Err-Refused.field-0-0).0 (ap Err c.in-Err-Refused.field-0-is)))
