use Rattle.replay_core.proofs.desk.Desk.history_is_kept.Goals as goal

pub returns : goal.returns
returns c = let is = c.self.invariant in rw (← c.self.view_is) (record { sound = record { replayable = is.follows.replayable; target = is.target }; legal = is.follows.legal; truthful = is.truthful; texts = is.texts })
