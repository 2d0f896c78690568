use Rattle.replay_core.proofs.desk.Desk.waiting.Goals as goal

pub returns : goal.returns
returns c = rw (← c.self.view_is) (c.waiting.ensures c.self.inside.history.items c.self.invariant.follows)
