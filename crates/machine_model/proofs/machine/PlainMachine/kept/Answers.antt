use Rattle.std.proofs.Common.{◌∙◌, refl, sym, ap, subst}
use Rattle.std.specs.Prelude.{IfOk}
use Rattle.sql_tree.specs.Plain.{plan_of}
use Rattle.sql_reader.specs.Reading.{statement_of}
use Rattle.statement_cache.specs.Kept.{outcome_of}
use Rattle.server_words.specs.Request.{Request}
use Rattle.server_words.specs.Step.{answer_to, view_for}
use Rattle.server_words.specs.Decision.{Decides}
use Rattle.machine_model.proofs.Texts.{checked_asks, refused_asks, unreadable_asks}
use Rattle.machine_model.proofs.machine.PlainMachine.kept.Goals as goal

pub returns-in-Checked : goal.returns-in-Checked
returns-in-Checked c text told =
    let state = c.args.self.now.state in
    let schema = state.start.schema in
    let asks = checked_asks schema c.args.binds.now schema.version (statement_of text) (plan_of c.in-Checked.ready) (told ∙ ap outcome_of c.in-Checked.is) in
    subst (λ (request : Request). IfOk c.known.result (λ decision. Decides (view_for state c.args.session request) (answer_to state c.args.session request) decision)) (sym asks) c.known.ensures

pub returns-in-Refused : goal.returns-in-Refused
returns-in-Refused c text told =
    let state = c.args.self.now.state in
    let schema = state.start.schema in
    let asks = refused_asks schema c.args.binds.now schema.version (statement_of text) c.in-Refused.fault (told ∙ ap outcome_of c.in-Refused.is) in
    subst (λ (request : Request). Decides (view_for state c.args.session request) (answer_to state c.args.session request) c.unsound.result) (sym asks.1) (c.unsound.ensures asks.0)

pub returns-in-Unreadable : goal.returns-in-Unreadable
returns-in-Unreadable c text told =
    let state = c.args.self.now.state in
    let schema = state.start.schema in
    let asks = unreadable_asks schema c.args.binds.now schema.version (statement_of text) (told ∙ ap outcome_of c.in-Unreadable.is) in
    subst (λ (request : Request). Decides (view_for state c.args.session request) (answer_to state c.args.session request) c.refused.result) (sym asks) (rw c.refused.ensures (record { answers = refl; commits = refl }))
