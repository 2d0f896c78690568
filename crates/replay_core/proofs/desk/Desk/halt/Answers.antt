use Rattle.replay_core.proofs.desk.Desk.halt.Goals as goal

pub invariant_of-self : goal.invariant_of-self
invariant_of-self c =
    let is = c.self.invariant in
    rw c.halt.ensures (record { target = is.target; truthful = is.truthful; texts = is.texts; own = is.own; follows = is.follows; room = is.room; steps = is.steps })
