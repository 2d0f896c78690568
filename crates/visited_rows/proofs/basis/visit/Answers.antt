use Rattle.std.proofs.Common.{◌≡◌, ◌∙◌, List, ap}
use Rattle.std.proofs.lemmas.Result.{IfOk-weaker}
use Rattle.desk_values.specs.declared.value.Image.{Image}
use Rattle.sql_tree.specs.Plain.{condition_of}
use Rattle.sql_eval.specs.Totals.{looked_at}
use Rattle.server_words.specs.Found.{matching, where_faults}
use Rattle.found_rows.specs.Evaluation.{env_of}
use Rattle.visited_rows.specs.Basis.{rows_of_basis}
use Rattle.visited_rows.proofs.Visits.{faults_visited, found_visited}
use Rattle.visited_rows.proofs.basis.visit.Goals as goal

pub returns-clause-rows : goal.returns-clause-rows
returns-clause-rows c =
    let env = env_of c.args.with in
    let condition = condition_of c.args.condition.now in
    let rows = rows_of_basis c.args.basis in
    IfOk-weaker c.sifted.result (λ r. looked_at r.0.items ≡ matching env condition (looked_at c.deref.result.now)) (λ r. looked_at r.0.items ≡ matching env condition rows)
    (λ r is. is ∙ ap (λ (l : List Image). matching env condition l) (ap looked_at c.deref.ensures.value ∙ c.in_ok-rows.ensures) ∙ found_visited env condition rows) c.sifted.ensures.rows

pub returns-clause-faults : goal.returns-clause-faults
returns-clause-faults c =
    let env = env_of c.args.with in
    let condition = condition_of c.args.condition.now in
    let rows = rows_of_basis c.args.basis in
    IfOk-weaker c.sifted.result (λ r. r.1 ≡ where_faults env condition (looked_at c.deref.result.now)) (λ r. r.1 ≡ where_faults env condition rows)
    (λ r is. is ∙ ap (where_faults env condition) (ap looked_at c.deref.ensures.value ∙ c.in_ok-rows.ensures) ∙ faults_visited env condition rows) c.sifted.ensures.faults
