use Rattle.std.proofs.Common.{◌∙◌, Some, sym, ap, arith}
use Rattle.id_pairs.specs.Carrying.Carried.{each_some}
use Rattle.id_pairs.proofs.Carrying.Carrying.{each_fails, each_step}
use Rattle.divergence.proofs.carry.ListCarry.carry.Goals as goal

pub returns-in-None : goal.returns-in-None
returns-in-None g c =
    let none = each_fails (g.T.Carry.carried c.args.map.now.pairs) c.as_slice-item-items.result.now c.loop-item.item-index c.item-item.result (omega arith) c.item-item.is (sym c.in_ok-other.ensures ∙ c.in-None.is) in
    sym none ∙ ap (each_some (g.T.Carry.carried c.args.map.now.pairs)) c.as_slice-item-items.ensures

pub loop-item-preserved : goal.loop-item-preserved
loop-item-preserved g c =
    each_step (g.T.Carry.carried c.args.map.now.pairs) c.as_slice-item-items.result.now c.loop-item.item-index c.loop-item.carried c.item-item.result c.in-Some.other (omega arith) c.item-item.is c.loop-item.invariant (sym c.in_ok-other.ensures ∙ c.in-Some.is)
    ∙ ap Some (sym c.in_ok-push-in-Some.ensures.ok)
