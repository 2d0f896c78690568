use Rattle.remote_desk.specs.History.{plain}
use Rattle.remote_desk.proofs.desk.RemoteDesk.first_open.Goals as goal

pub returns-clause-least : goal.returns-clause-least
returns-clause-least c = rw (← c.self.view_is) (c.first_open.ensures.least (plain c.self.inside.events.items) c.self.invariant.follows)

pub returns-clause-never_stuck : goal.returns-clause-never_stuck
returns-clause-never_stuck c = rw (← c.self.view_is) (c.first_open.ensures.never_stuck (plain c.self.inside.events.items) c.self.invariant.follows)
