use Rattle.std.proofs.Common.{◌∙◌, Some, sym, ap, arith}
use Rattle.id_pairs.specs.Carrying.Carried.{carried_value, each_some}
use Rattle.id_pairs.proofs.Carrying.Carrying.{each_fails, each_step}
use Rattle.twin_tables.proofs.sets.carried_values.Goals as goal

pub returns-in-None : goal.returns-in-None
returns-in-None c =
    let none = each_fails (carried_value c.args.map.now.pairs) c.as_slice-value-items.result.now c.loop-value.value-index c.value-item.result (omega arith) c.value-item.is (sym c.in_ok-other.ensures ∙ c.in-None.is) in
    sym none ∙ ap (each_some (carried_value c.args.map.now.pairs)) c.as_slice-value-items.ensures

pub loop-value-preserved : goal.loop-value-preserved
loop-value-preserved c =
    each_step (carried_value c.args.map.now.pairs) c.as_slice-value-items.result.now c.loop-value.value-index c.loop-value.carried c.value-item.result c.in-Some.other (omega arith) c.value-item.is c.loop-value.invariant (sym c.in_ok-other.ensures ∙ c.in-Some.is)
    ∙ ap Some (sym c.in_ok-push-in-Some.ensures.ok)
