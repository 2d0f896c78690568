use Rattle.std.proofs.Common.{sym, ◌∙◌}
use Rattle.desk_schema.proofs.Lasts.{last_columns-last}
use Rattle.desk_schema.proofs.additions.last_columns.Goals as goal

pub returns-in-Some : goal.returns-in-Some
returns-in-Some c = c.as_slice.ensures ∙ sym (last_columns-last c.args.tables.now c.in-Some.table.now (sym c.in-Some.ensures.value))
