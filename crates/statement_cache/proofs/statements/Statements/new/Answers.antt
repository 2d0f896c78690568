use Rattle.std.proofs.Common.{arith}
use Rattle.statement_cache.proofs.statements.Statements.new.Goals as goal

pub invariant_of-result : goal.invariant_of-result
invariant_of-result c = record { taken = omega (arith, c.no_texts.ensures.none); limit = omega arith }

pub returns : goal.returns
returns c = c.no_texts.ensures.right
