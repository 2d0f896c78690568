use Rattle.std.proofs.Common.{List, ◌≡◌, ◌-◌, get_or, set, length, ap, ◌∙◌, arith}
use Rattle.desk_schema.specs.declared.schema.Column.{Column}
use Rattle.desk_schema.specs.declared.schema.Table.{Table}
use Rattle.desk_schema.proofs.Lasts.{with_column-set}
use Rattle.desk_schema.proofs.additions.push_column.Goals as goal

pub returns-clause-ok : goal.returns-clause-ok
returns-clause-ok c =
    let tables = c.args.tables.now.items in
    let table : Table = c.index_mut.result.now in
    let count : c.len-last.result ≡ length tables = c.len-last.ensures ∙ c.args.tables.now.ok.0 in
    ap (λ n. set tables (n - 1) (record { name = table.name; columns = c.push.new.self })) count
    ∙ ap (λ (columns : List Column). set tables (length tables - 1) (record { name = table.name; columns = columns })) c.in_ok-push.ensures.ok
    ∙ with_column-set tables table c.args.column (omega arith) (c.index_mut.ensures.value ∙ ap (λ n. get_or tables (n - 1) table) count)
