use Rattle.std.proofs.Common.{ℕ, [], map}
use Rattle.sql_tree.specs.Plain.{change_of, condition_of}
use Rattle.sql_eval.specs.Totals.{looked_at}
use Rattle.found_rows.specs.Evaluation.{env_of}
use Rattle.visited_rows.specs.Basis.{view_of_basis}
use Rattle.server_words.specs.Answer.{update_causes, update_effect}
use Rattle.statement_acts.proofs.Refusing.{first_told, ruled_refused}
use Rattle.statement_acts.proofs.Changing.{first_is_first}
use Rattle.statement_acts.proofs.updating.update.Goals as goal

pub returns-in-Some : goal.returns-in-Some
returns-in-Some c =
    let env = env_of c.args.with in
    let view = view_of_basis c.args.basis in
    let changes = map (change_of {N = ℕ}) c.args.settings.now in
    let condition = condition_of c.args.condition.now in
    let causes = update_causes env c.args.columns.now view changes condition in
    let first = first_is_first env c.args.columns.now view changes condition (looked_at c.in_ok-found.found.items) c.in_ok-found.ensures.found c.in_ok-found.first (rw c.as_slice.ensures at c.in_ok-found.ensures.first) in
    ruled_refused view c.args.basis.table [] causes (update_effect env view changes condition) c.refusal.result c.in-Some.fault (first_told causes c.in_ok-found.first c.in-Some.fault c.in-Some.ensures first) (rw c.new-draws.ensures at (c.refusal.ensures view))
