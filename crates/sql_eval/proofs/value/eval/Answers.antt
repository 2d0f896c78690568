use Rattle.std.proofs.Common.{◌≡◌, List, ap, subst, ◌∙◌}
use Rattle.std.specs.Prelude.{◌↔◌, Result, Err, IsErrOf}
use Rattle.desk_values.specs.declared.value.Value.{Value}
use Rattle.desk_values.specs.declared.fault.Fault.{Fault}
use Rattle.sql_tree.specs.Plain.{term_of}
use Rattle.sql_eval.specs.Value.{value_of}
use Rattle.sql_eval.specs.declared.error.EvalErr.TheVariants.{Refused}
use Rattle.sql_eval.proofs.value.eval.Goals as goal

pub returns-clause-refused : goal.returns-clause-refused
returns-clause-refused c = let P : Result Value Fault → Type 0 = λ o. (fault : Fault) → IsErrOf c.owned.result (Refused fault) ↔ (o ≡ Err fault) in subst P (c.borrowed_value.ensures ∙ ap (λ (values : List Value). value_of c.args.level c.args.row values c.args.binds.now (term_of c.args.e.now)) c.as_slice.ensures) c.owned.ensures.refused
