use Rattle.remote_target.proofs.Spokens.{new_spoken}
use Rattle.remote_target.proofs.spoken.Spoken.new.Goals as goal

pub invariant_of-result : goal.invariant_of-result
invariant_of-result g c = rw c.new.ensures (new_spoken (g.L.Link.account c.args.line).content (g.L.Link.account c.args.line).faults c.requires)
