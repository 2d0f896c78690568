use Rattle.remote_desk.specs.History.{plain}
use Rattle.remote_desk.proofs.desk.RemoteDesk.pick.Goals as goal

pub returns : goal.returns
returns c = rw (← c.self.view_is) (c.pick.ensures (plain c.self.inside.events.items) c.self.invariant.follows)
