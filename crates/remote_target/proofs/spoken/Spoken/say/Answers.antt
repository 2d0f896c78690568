use Rattle.std.proofs.Common.{refl}
use Rattle.remote_target.proofs.Spokens.{said_err, said_ok, succeeds}
use Rattle.remote_target.proofs.spoken.Spoken.say.Goals as goal

pub invariant_of-self : goal.invariant_of-self
invariant_of-self g c =
    let fair = rw (← c.self.view_is) at c.requires.fair in
    let room = rw (← c.self.view_is) at c.requires.room in
    let spoken = rw fair at c.self.invariant in
    let grown = succeeds c.push.result (c.push.ensures.succeeds room) c.push.ensures.ok in
    rw (fair, grown) (said_ok c.args.call c.self.inside.heard.items (g.L.Link.account c.self.inside.line).faults (g.L.Link.account c.call.new.self).faults (g.L.Link.account c.self.inside.line).content (g.L.Link.account c.call.new.self).content c.in-Ok.reply spoken c.in-Ok.ensures.notes c.in-Ok.ensures.good c.in-Ok.ensures.counts)

pub invariant_of-self-in-Err : goal.invariant_of-self-in-Err
invariant_of-self-in-Err g c =
    let fair = rw (← c.self.view_is) at c.requires.fair in
    let room = rw (← c.self.view_is) at c.requires.room in
    let spoken = rw fair at c.self.invariant in
    let grown = succeeds c.push-in-Err.result (c.push-in-Err.ensures.succeeds room) c.push-in-Err.ensures.ok in
    rw grown (said_err c.args.call c.self.inside.heard.items (g.L.Link.account c.self.inside.line).faults (g.L.Link.account c.call.new.self).faults c.in-Err.refusal (g.L.Link.account c.self.inside.line).content (g.L.Link.account c.call.new.self).content spoken c.in-Err.ensures.notes c.in-Err.ensures.counts)

pub returns-in-Ok : goal.returns-in-Ok
returns-in-Ok g c =
    let room = rw (← c.self.view_is) at c.requires.room in
    let grown = succeeds c.push.result (c.push.ensures.succeeds room) c.push.ensures.ok in
    rw (← c.self.view_is, grown) (record { says = ((c.in-Ok.reply, refl), refl) })

pub returns-in-Err : goal.returns-in-Err
returns-in-Err g c =
    let room = rw (← c.self.view_is) at c.requires.room in
    let grown = succeeds c.push-in-Err.result (c.push-in-Err.ensures.succeeds room) c.push-in-Err.ensures.ok in
    rw (← c.self.view_is, grown) (record { says = (refl, refl) })
