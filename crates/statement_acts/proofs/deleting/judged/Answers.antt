use Rattle.std.proofs.Common.{◌≡◌, ◌++◌, ℕ, Bool, List, Option, ap, ◌∙◌, refl}
use Rattle.std.specs.List.{list_any}
use Rattle.desk_values.specs.declared.value.Image.{Image}
use Rattle.sql_tree.specs.Plain.{Term, condition_of}
use Rattle.sql_eval.specs.declared.faults.Faults.{Faults}
use Rattle.sql_eval.specs.Totals.{looked_at}
use Rattle.server_words.specs.declared.causes.Causes.{Causes}
use Rattle.found_rows.specs.Evaluation.{env_of}
use Rattle.server_words.specs.Causes.{ranked, first_causes}
use Rattle.server_words.specs.View.{View, is_held}
use Rattle.server_words.specs.Found.{Environment, matches, matching, where_faults}
use Rattle.server_words.specs.Answer.{delete_causes, too_many_rows}
use Rattle.visited_rows.specs.Basis.{view_of_basis}
use Rattle.found_rows.proofs.Adding.{any_filtered}
use Rattle.statement_acts.proofs.Refusing.{first_of, first_told, rest_told}
use Rattle.statement_acts.proofs.deleting.judged.Goals as goal

first_is_first : (env : Environment) (view : View) (condition : Option (Term ℕ)) (first : Causes) (found : List Image) (faults : Faults) (too_many : Bool)
    → first ≡ first_causes faults too_many → faults ≡ where_faults env condition view.rows → too_many ≡ too_many_rows view.own.changes found → found ≡ matching env condition view.rows → first ≡ first_of (delete_causes env view condition)
first_is_first env view condition first found faults too_many first_is faults_are many_is found_is = rw (first_is, faults_are, many_is, found_is) refl

pub returns-in-Some-clause-fault : goal.returns-in-Some-clause-fault
returns-in-Some-clause-fault c =
    let env = env_of c.args.with in
    let view = view_of_basis c.args.basis in
    let condition = condition_of c.args.condition.now in
    first_told (delete_causes env view condition) c.first-first.result _ c.in-Some.ensures
    (first_is_first env view condition _ _ _ _ c.first-first.ensures c.in_ok-found.ensures.faults c.touch_too_many-too_many.ensures (ap looked_at c.deref.ensures.value ∙ c.in_ok-found.ensures.rows))

pub returns-clause-fault : goal.returns-clause-fault
returns-clause-fault c =
    let env = env_of c.args.with in
    let view = view_of_basis c.args.basis in
    let condition = condition_of c.args.condition.now in
    let others = is_held (c.args.basis.others.before.now ++ c.args.basis.others.after.now) in
    c.ranked-2.ensures ∙ ap ranked (rest_told (delete_causes env view condition) c.first-first.result _
    (first_is_first env view condition _ _ _ _ c.first-first.ensures c.in_ok-found.ensures.faults c.touch_too_many-too_many.ensures (ap looked_at c.deref.ensures.value ∙ c.in_ok-found.ensures.rows))
    (c.hold_some_row-locked.ensures ∙ ap (list_any others) (ap looked_at c.deref-2.ensures.value ∙ c.in_ok-found.ensures.rows) ∙ any_filtered others (matches env condition) view.rows) refl)
