use Rattle.replay_core.proofs.desk.Desk.pick.Goals as goal

pub returns : goal.returns
returns c = rw (← c.self.view_is) (c.pick.ensures c.self.inside.history.items c.self.invariant.follows)
