use Rattle.replay_core.proofs.desk.Desk.ready.Goals as goal

pub returns : goal.returns
returns c = rw (← c.self.view_is) (c.ready.ensures c.self.inside.history.items c.self.invariant.follows)
