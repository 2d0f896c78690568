use Rattle.std.proofs.Common.{◌≡◌, true}
use Rattle.remote_desk.specs.History.{plain}
use Rattle.remote_desk.proofs.Histories.{waits_where_sent}
use Rattle.remote_desk.proofs.desk.RemoteDesk.awaits.Goals as goal

pub returns-else-waiting : goal.returns-else-waiting
returns-else-waiting c =
    let a = c.self.inside in
    let is = c.self.invariant in
    let tells = c.waiting.ensures (plain a.events.items) is.follows in
    rw (← c.self.view_is) (
      λ holds. absurd (let so : c.waiting.result ≡ true = holds in let not_so = c.if-waiting.false in cc),
      λ may. tells.1 (waits_where_sent a.schedule.job a.events.items c.args.k is.remote may.0 may.1),
    )
