use Rattle.std.proofs.Common.{inr, refl}
use Rattle.std.proofs.lemmas.Result.{err_from_is_err_and}
use Rattle.remote_target.proofs.running.closed.Goals as goal

pub returns-in_err-refused-clause-refused : goal.returns-in_err-refused-clause-refused
returns-in_err-refused-clause-refused g c = let p = err_from_is_err_and c.from_residual.result c.from_residual.ensures.1 in rw (p.1, p.2) c.in_err-refused.ensures

pub returns-else-done-clause-refused : goal.returns-else-done-clause-refused
returns-else-done-clause-refused g c = (inr refl, λ link. absurd cc)
