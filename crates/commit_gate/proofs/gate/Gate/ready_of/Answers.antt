use Rattle.std.proofs.lemmas.Bool.{false≢true}
use Rattle.object_depends.specs.Facts.{fact_at}
use Rattle.commit_gate.specs.Inside.Heads.{IsHead}
use Rattle.commit_gate.proofs.Readiness.{ready_at_head}
use Rattle.commit_gate.proofs.gate.Gate.ready_of.Goals as goal

pub returns-else-ready : goal.returns-else-ready
returns-else-ready c k of =
    let a = c.self.inside in
    let own = rw (← c.self.view_is) at of in
    let found : IsHead a.facts a.answered.items c.args.session c.in_ok-k.field-0.now = rw (← c.in_ok-k.ensures.value) at (c.self.invariant.heads c.args.session) in
    let head : IsHead a.facts a.answered.items (fact_at a.facts k).session c.in_ok-k.field-0.now = rw (← own.1) at found in
    let e = ready_at_head a c.self.invariant k c.in_ok-k.field-0.now head own.0 in
    false≢true (c.if-ready.ensures.1 (rw e at of.0))
