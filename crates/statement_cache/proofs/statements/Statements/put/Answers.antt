use Rattle.std.proofs.Common.{subst, sym, arith}
use Rattle.statement_cache.specs.Kept.{AreRight, Texts}
use Rattle.statement_cache.proofs.statements.Statements.put.Goals as goal

pub with_room-bytes-requires : goal.with_room-bytes-requires
with_room-bytes-requires c = record { taken = c.self.invariant.taken; limit = c.self.invariant.limit; more = c.bytes_of-more.ensures.limit }

pub invariant_of-self : goal.invariant_of-self
invariant_of-self c = record {
  taken = omega (arith, c.keep.ensures.taken, c.with_room-bytes.ensures.taken, c.bytes_of-more.ensures.value);
  limit = c.with_room-bytes.ensures.limit;
}

pub returns : goal.returns
returns c = λ schema right has.
    c.keep.ensures.right schema right (c.with_room-bytes.ensures.right schema (subst (λ (texts : Texts). AreRight schema texts) (sym c.self.view_is) has))
