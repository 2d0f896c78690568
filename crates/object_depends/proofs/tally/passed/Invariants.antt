use Rattle.std.proofs.Common.{◌≡◌, vec_len}
use Rattle.object_depends.specs.Inside.{AreTallied, AreTallies}
use Rattle.object_depends.proofs.tally.passed.Given as goal

abbrev pub invariant-loop-k : goal.invariant-loop-k
invariant-loop-k l = record {
  len : vec_len l.tallies ≡ l.k;
  each : AreTallies l.mode l.facts l.tallies.items l.k;
  tallied : AreTallied l.mode l.facts l.groups.items l.k;
}
