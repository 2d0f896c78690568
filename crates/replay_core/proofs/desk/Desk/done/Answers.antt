use Rattle.replay_core.proofs.desk.Desk.done.Goals as goal

pub returns : goal.returns
returns c = rw (← c.self.view_is) (c.done.ensures c.self.inside.history.items c.self.invariant.follows)
