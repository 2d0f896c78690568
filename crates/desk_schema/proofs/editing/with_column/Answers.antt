use Rattle.std.proofs.Common.{◌≡◌, ◌∙◌, List, ℕ, get_or, set, ap}
use Rattle.desk_schema.specs.declared.schema.Column.{Column}
use Rattle.desk_schema.specs.Change.{with_shape}
use Rattle.desk_schema.proofs.Placing.{set_is_change}
use Rattle.desk_schema.proofs.editing.with_column.Goals as goal

pub returns : goal.returns
returns c =
    let columns = c.args.columns.now in
    let place = c.args.place in
    let old : Column = c.index.result.now in
    let new : Column = record { name = c.in_ok-name.name; kind = c.args.kind; not_null = c.args.not_null } in
    let items_are = c.into_vec-columns.ensures ∙ c.in_ok-from_slice.ensures in
    let read : old ≡ get_or columns place old = c.index.ensures ∙ ap (λ (xs : List Column). get_or xs place old) items_are in
    let made : new ≡ with_shape c.args.kind c.args.not_null (get_or columns place old) =
    ap (λ (n : List ℕ). record { name = n; kind = c.args.kind; not_null = c.args.not_null }) c.in_ok-name.ensures ∙ ap (with_shape c.args.kind c.args.not_null) read in
    c.from_vec.ensures ∙ ap (λ (xs : List Column). set xs place new) items_are ∙ set_is_change (with_shape c.args.kind c.args.not_null) place columns old new c.requires made
