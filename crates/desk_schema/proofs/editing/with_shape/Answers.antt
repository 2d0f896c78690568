use Rattle.std.proofs.Common.{◌≡◌, ◌∙◌, List, get_or, set, ap, sym}
use Rattle.desk_schema.specs.declared.schema.Column.{Column}
use Rattle.desk_schema.specs.declared.schema.Table.{Table}
use Rattle.desk_schema.specs.Change.{change_at, with_column_at, with_shape}
use Rattle.desk_schema.proofs.Placing.{got_same, set_is_change}
use Rattle.desk_schema.proofs.editing.with_shape.Goals as goal

pub returns : goal.returns
returns c =
    let tables = c.args.tables.now in
    let place = c.args.table in
    let first : Table = c.index-tables-place.result in
    let old : Table = c.index_mut.result.now in
    let new : Table = record { name = old.name; columns = c.in_ok-columns.columns } in
    let change : Column → Column = with_shape c.args.kind c.args.not_null in
    let items_are = c.into_vec-tables.ensures ∙ c.in_ok-from_slice.ensures in
    let read : old ≡ get_or tables place old = c.index_mut.ensures.value ∙ ap (λ (xs : List Table). get_or xs place old) items_are in
    let same : get_or tables place first ≡ old = got_same tables place first old c.requires.table ∙ sym read in
    let columns : c.in_ok-columns.columns ≡ change_at change c.args.column old.columns = c.in_ok-columns.ensures ∙ ap (change_at change c.args.column) (c.as_slice-columns.ensures ∙ ap (λ (t : Table). t.columns) same) in
    let made : new ≡ with_column_at change c.args.column (get_or tables place old) =
    ap (λ (cs : List Column). record { name = old.name; columns = cs }) columns ∙ ap (with_column_at change c.args.column) read in
    c.from_vec.ensures ∙ ap (λ (xs : List Table). set xs place new) items_are ∙ set_is_change (with_column_at change c.args.column) place tables old new c.requires.table made
