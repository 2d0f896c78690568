use Rattle.std.proofs.Common.{take}
use Rattle.known_ids.specs.Knowing.{KnowsCalls}
use Rattle.known_ids.proofs.known.KnownIds.of_calls.Given as goal

abbrev pub invariant-loop-k : goal.invariant-loop-k
invariant-loop-k l = KnowsCalls l.known l.rows (take l.k l.calls)
