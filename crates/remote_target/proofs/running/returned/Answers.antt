use Rattle.std.proofs.Common.{inl, inr, refl}
use Rattle.remote_target.proofs.running.returned.Goals as goal

pub returns-in-Ok-clause-returns : goal.returns-in-Ok-clause-returns
returns-in-Ok-clause-returns g c = inl (refl, c.in-Ok.ensures.gives)

pub returns-in-Err-clause-returns : goal.returns-in-Err-clause-returns
returns-in-Err-clause-returns g c = inr (refl, (record {}, c.in-Err.ensures.gives))
