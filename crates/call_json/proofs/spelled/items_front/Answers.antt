use Rattle.std.proofs.Common.{length, length-append, ap, arith}
use Rattle.serde_json.specs.Written.{compact_text}
use Rattle.call_json.proofs.SpelledTexts.{items_last, items_more, items_none}
use Rattle.call_json.proofs.spelled.items_front.Goals as goal

pub loop-item-init : goal.loop-item-init
loop-item-init g c = items_none g.T.Spelled.meaning c.args.bytes.now c.new-items.result c.new-items.ensures

pub returns-in-Some-behind : goal.returns-in-Some-behind
returns-in-Some-behind g c =
    let l = c.loop-item in
    rw c.in-Ok.ensures.ok (items_last g.T.Spelled.meaning c.args.bytes.now l.rest.now c.in-Some.after.now c.in-Some-behind.more.now l.items c.in-Some.item l.invariant c.in-Some.ensures c.in-Some-behind.ensures)

pub loop-item-smaller : goal.loop-item-smaller
loop-item-smaller g c =
    omega (arith, ap length c.in-Some.ensures, ap length c.in_ok-next.ensures, length-append (compact_text (g.T.Spelled.meaning c.in-Some.item)) c.in-Some.after.now)

pub loop-item-preserved : goal.loop-item-preserved
loop-item-preserved g c =
    let l = c.loop-item in
    rw c.in-Ok.ensures.ok (items_more g.T.Spelled.meaning c.args.bytes.now l.rest.now c.in-Some.after.now c.in_ok-next.next.now l.items c.in-Some.item l.invariant c.in-Some.ensures c.in_ok-next.ensures)
