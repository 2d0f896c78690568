use Rattle.remote_desk.proofs.desk.RemoteDesk.history_is_kept.Goals as goal

pub returns : goal.returns
returns c = let is = c.self.invariant in rw (← c.self.view_is) (record { replayable = is.follows.replayable; remote = is.remote; pairs = is.pairs; order = is.order; texts = is.texts })
