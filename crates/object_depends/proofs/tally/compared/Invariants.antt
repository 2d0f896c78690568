use Rattle.std.proofs.Common.{◌≡◌, vec_len}
use Rattle.object_depends.specs.Inside.{AreTallies}
use Rattle.object_depends.proofs.tally.compared.Given as goal

abbrev pub invariant-loop-k : goal.invariant-loop-k
invariant-loop-k l = record {
  len : vec_len l.tallies ≡ l.k;
  each : AreTallies l.mode l.facts l.tallies.items l.k;
}
