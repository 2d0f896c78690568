use Rattle.std.proofs.Common.{◌≡◌, None, Some, refl, sym, ap, ◌∙◌}
use Rattle.sql_tree.specs.Plain.{plan_of}
use Rattle.server_words.specs.declared.session.Session.{Session}
use Rattle.server_words.specs.Causes.{statement_fault}
use Rattle.sql_eval.specs.SchemaNames.{table_of}
use Rattle.server_words.specs.Request.{statement}
use Rattle.server_words.specs.Step.{view_for}
use Rattle.server_words.specs.View.{plain_view}
use Rattle.machine_model.proofs.Telling.{same_fault, unforbidden}
use Rattle.machine_model.proofs.machine.PlainMachine.checked.Goals as goal

pub returns-in-Some : goal.returns-in-Some
returns-in-Some c =
    let plan = plan_of c.args.ready.now in
    let told : statement_fault (view_for c.args.self.now.state c.args.session (statement plan c.args.binds.now)) plan ≡ Some c.in-Some.fault =
    same_fault c.args.self.now.state c.args.session (table_of plan) plan ∙ ap (λ (s : Session). statement_fault (plain_view s) plan) (sym c.session.ensures) ∙ sym c.statement_fault.ensures ∙ c.in-Some.is in
    rw (told, c.refused.ensures) (record { answers = refl; commits = refl })

pub returns-in-None : goal.returns-in-None
returns-in-None c =
    let plan = plan_of c.args.ready.now in
    let told : statement_fault (view_for c.args.self.now.state c.args.session (statement plan c.args.binds.now)) plan ≡ None =
    same_fault c.args.self.now.state c.args.session (table_of plan) plan ∙ ap (λ (s : Session). statement_fault (plain_view s) plan) (sym c.session.ensures) ∙ sym c.statement_fault.ensures ∙ c.in-None.is in
    unforbidden c.args.self.now.state c.args.session c.args.binds.now plan c.executed.result told c.executed.ensures
