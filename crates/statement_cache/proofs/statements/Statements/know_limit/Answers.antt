use Rattle.std.proofs.Common.{◌≤◌, subst, arith}
use Rattle.statement_cache.specs.Count.{counted}
use Rattle.statement_cache.specs.Kept.{Texts}
use Rattle.statement_cache.specs.Limits.{bytes_limit}
use Rattle.statement_cache.proofs.statements.Statements.know_limit.Goals as goal

pub returns : goal.returns
returns c =
    let within : counted c.self.inside.known.entries ≤ bytes_limit = omega (arith, c.self.invariant.taken, c.self.invariant.limit) in
    subst (λ (texts : Texts). counted texts ≤ bytes_limit) c.self.view_is within
