use Rattle.std.proofs.Common.{◌≡◌, sym, ◌∙◌}
use Rattle.twin_tables.proofs.Alike.{once_sets, sets_once}
use Rattle.twin_tables.proofs.sets.same_sets.Goals as goal

pub returns : goal.returns
returns g c =
    let order = g.T.Member.order_of in
    let total = g.met.T.Member.total in
    let ones = c.in_ok-items.items.items in
    let others = c.in_ok-others.others.items in
    let left : c.as_slice.result.now ≡ ones = c.as_slice.ensures.value in
    let right : c.as_slice-2.result.now ≡ others = c.as_slice-2.ensures.value in (
      λ same. once_sets order total c.args.items.items c.args.others.items ones others c.in_ok-items.ensures c.in_ok-others.ensures (sym left ∙ c.same_items.ensures.0 same ∙ right),
      λ sets. c.same_items.ensures.1 (left ∙ sets_once order total c.args.items.items c.args.others.items ones others c.in_ok-items.ensures c.in_ok-others.ensures sets ∙ sym right),
    )
