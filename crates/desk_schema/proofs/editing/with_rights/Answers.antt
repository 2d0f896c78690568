use Rattle.std.proofs.Common.{◌≡◌, ◌∙◌, List, get_or, set, ap}
use Rattle.desk_schema.specs.declared.schema.Service.{Service}
use Rattle.desk_schema.specs.Change.{with_rights}
use Rattle.desk_schema.proofs.Placing.{set_is_change}
use Rattle.desk_schema.proofs.editing.with_rights.Goals as goal

pub returns : goal.returns
returns c =
    let services = c.args.services.now in
    let place = c.args.place in
    let old : Service = c.index_mut.result.now in
    let new : Service = with_rights c.args.rights old in
    let items_are = c.into_vec-services.ensures ∙ c.in_ok-from_slice.ensures in
    let read : old ≡ get_or services place old = c.index_mut.ensures.value ∙ ap (λ (xs : List Service). get_or xs place old) items_are in
    c.from_vec.ensures ∙ ap (λ (xs : List Service). set xs place new) items_are ∙ set_is_change (with_rights c.args.rights) place services old new c.requires (ap (with_rights c.args.rights) read)
