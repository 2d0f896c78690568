use Rattle.std.proofs.Common.{List, ap, ◌∙◌}
use Rattle.desk_schema.specs.declared.schema.Table.{Table}
use Rattle.desk_schema.specs.Schema.{columns_of}
use Rattle.desk_schema.proofs.Columns.{few_columns}
use Rattle.desk_schema.proofs.schema.Schema.columns.Goals as goal

pub returns-clause-limit : goal.returns-clause-limit
returns-clause-limit c =
    rw (c.columns_of.ensures ∙ ap (λ (tables : List Table). columns_of tables c.args.table) c.as_slice.ensures)
    (few_columns c.self.inside.tables c.args.table c.self.invariant.columns)
