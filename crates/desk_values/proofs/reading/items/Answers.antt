use Rattle.std.proofs.Common.{sym}
use Rattle.std.proofs.lemmas.Result.{err_from_is_err_and}
use Rattle.desk_values.specs.Reading.{value_of, items_of}
use Rattle.desk_values.proofs.Cuts.{each_none, each_more, each_last, each_bad, each_last_bad}
use Rattle.desk_values.proofs.reading.items.Goals as goal

pub loop-item-init : goal.loop-item-init
unfolding items_of
loop-item-init c = each_none value_of 44 c.args.bytes.now c.in_ok-values.values c.in_ok-values.ensures

pub returns-in_err-value : goal.returns-in_err-value
returns-in_err-value c =
    let p = err_from_is_err_and c.from_residual-in_err-value.result c.from_residual-in_err-value.ensures.1 in
    rw (p.1, p.2) (each_bad value_of 44 c.loop-item.rest.now c.in-Some.item.now c.in-Some.after.now c.loop-item.values (items_of c.args.bytes.now) c.in_err-value.field-0.0 (sym c.in-Some.ensures.value) c.in_err-value.ensures c.loop-item.invariant)

pub loop-item-preserved : goal.loop-item-preserved
loop-item-preserved c =
    rw c.in_ok-push.ensures.ok (each_more value_of 44 c.loop-item.rest.now c.in-Some.item.now c.in-Some.after.now c.loop-item.values c.in_ok-value.field-0 (items_of c.args.bytes.now) (sym c.in-Some.ensures.value) c.in_ok-value.ensures c.loop-item.invariant)

pub returns-in_err-value-2 : goal.returns-in_err-value-2
returns-in_err-value-2 c =
    let p = err_from_is_err_and c.from_residual-in_err-value-2.result c.from_residual-in_err-value-2.ensures.1 in
    rw (p.1, p.2) (each_last_bad value_of 44 c.loop-item.rest.now c.loop-item.values (items_of c.args.bytes.now) c.in_err-value-2.field-0.0 (sym c.in_default.ensures.value) c.in_err-value-2.ensures c.loop-item.invariant)

pub returns : goal.returns
returns c =
    rw c.in_ok-push-2.ensures.ok (each_last value_of 44 c.loop-item.rest.now c.loop-item.values c.in_ok-value-2.field-0 (items_of c.args.bytes.now) (sym c.in_default.ensures.value) c.in_ok-value-2.ensures c.loop-item.invariant)
