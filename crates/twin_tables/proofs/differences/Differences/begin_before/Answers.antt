use Rattle.std.proofs.Common.{inl, inr, refl}
use Rattle.twin_tables.proofs.differences.Differences.begin_before.Goals as goal

pub returns-then-stands_by : goal.returns-then-stands_by
returns-then-stands_by c = let both = c.stands_by.ensures c.if-stands_by.true in inr (refl, both.0, both.1)

pub returns : goal.returns
returns c = inl c.begin_anew.ensures
