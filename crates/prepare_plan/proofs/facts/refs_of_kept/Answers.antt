use Rattle.std.proofs.Common.{◌∙◌, ap}
use Rattle.sql_tree.specs.Plain.{plan_of}
use Rattle.sql_reader.specs.Reading.{statement_of}
use Rattle.statement_cache.specs.Kept.{outcome_of}
use Rattle.prepare_plan.proofs.Telling.{told_none, told_refs, told_within}
use Rattle.prepare_plan.proofs.facts.refs_of_kept.Goals as goal

pub returns-in-Checked : goal.returns-in-Checked
returns-in-Checked c binds told =
    let schema = c.args.schema.now in
    let plan = plan_of c.in-Checked.ready in
    let is = told ∙ ap outcome_of c.in-Checked.is in
    c.refs_of_ready.ensures (told_within schema binds (statement_of c.args.text.now) plan c.requires is) ∙ told_refs schema binds (statement_of c.args.text.now) plan is

pub returns-in-Unreadable : goal.returns-in-Unreadable
returns-in-Unreadable c binds told = told_none c.args.schema.now binds (statement_of c.args.text.now) (told ∙ ap outcome_of c.in-Unreadable.is)
