use Rattle.remote_target.proofs.sending.SendingCourse.halt.Goals as goal

pub invariant_of-self : goal.invariant_of-self
invariant_of-self g c = rw c.halt.ensures c.self.invariant
