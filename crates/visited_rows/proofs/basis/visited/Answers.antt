use Rattle.std.proofs.Common.{◌≡◌, ◌∙◌, Option, IfOk, subst, sym}
use Rattle.desk_values.specs.declared.value.Value.{Value}
use Rattle.sql_eval.specs.Totals.{looked_at}
use Rattle.visited_rows.specs.ByKey.{those_of}
use Rattle.visited_rows.specs.Basis.{rows_of_basis}
use Rattle.visited_rows.proofs.basis.visited.Goals as goal

pub returns-in-None : goal.returns-in-None
returns-in-None c = subst (λ (o : Option Value). IfOk c.all_rows.result (λ rows. looked_at rows.items ≡ those_of c.args.with.level o (rows_of_basis c.args.basis))) (sym c.in-None.is ∙ c.in_ok-key.ensures) c.all_rows.ensures

pub returns-in-Some : goal.returns-in-Some
returns-in-Some c = subst (λ (o : Option Value). IfOk c.rows_of_key.result (λ rows. looked_at rows.items ≡ those_of c.args.with.level o (rows_of_basis c.args.basis))) (sym c.in-Some.is ∙ c.in_ok-key.ensures) c.rows_of_key.ensures
