use Rattle.std.proofs.Common.{sym, ◌∙◌}
use Rattle.sql_tree.specs.Plain.{plan_of}
use Rattle.server_words.proofs.Handing.{text_table}
use Rattle.machine_model.proofs.viewing.table_of_text.Goals as goal

pub returns-in-Ok : goal.returns-in-Ok
returns-in-Ok c = λ binds.
    let schema = c.args.schema.now in
    c.table_of_statement.ensures ∙ sym (text_table schema binds schema.version c.args.text.now (plan_of c.in-Ok.statement) c.in-Ok.ensures.reads)
