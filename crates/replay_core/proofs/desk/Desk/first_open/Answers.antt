use Rattle.replay_core.proofs.desk.Desk.first_open.Goals as goal

pub returns-clause-least : goal.returns-clause-least
returns-clause-least c = rw (← c.self.view_is) (c.first_open.ensures.least c.self.inside.history.items c.self.invariant.follows)

pub returns-clause-never_stuck : goal.returns-clause-never_stuck
returns-clause-never_stuck c = rw (← c.self.view_is) (c.first_open.ensures.never_stuck c.self.inside.history.items c.self.invariant.follows)
