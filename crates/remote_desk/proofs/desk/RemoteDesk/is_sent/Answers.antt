use Rattle.std.proofs.Common.{◌≡◌, false, length, arith}
use Rattle.std.proofs.lemmas.List.{get_or_past}
use Rattle.remote_desk.proofs.desk.RemoteDesk.is_sent.Goals as goal

pub returns-in-None : goal.returns-in-None
returns-in-None c =
    let past = get_or_past c.self.inside.sent.items c.args.k false (omega (arith, c.in-None.ensures)) in
    rw (← c.self.view_is) (rw past at (c.self.invariant.sent c.args.k))
