use Rattle.std.proofs.Common.{◌≡◌, subst}
use Rattle.std.specs.Prelude.{◌↔◌, Result, Err, IsErrOf}
use Rattle.desk_values.specs.declared.value.Value.{Value}
use Rattle.desk_values.specs.declared.fault.Fault.{Fault}
use Rattle.sql_eval.specs.declared.error.EvalErr.TheVariants.{Refused}
use Rattle.sql_eval.proofs.totals.total.Goals as goal

pub returns-clause-refused : goal.returns-clause-refused
returns-clause-refused c = let P : Result Value Fault → Type 0 = λ o. (fault : Fault) → IsErrOf c.owned.result (Refused fault) ↔ (o ≡ Err fault) in subst P c.borrowed_total.ensures c.owned.ensures.refused
