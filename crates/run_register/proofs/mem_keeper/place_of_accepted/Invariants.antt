use Rattle.std.proofs.Common.{◌≡◌, ◌+◌, drop, map}
use Rattle.run_register.specs.Inside.{place_of}
use Rattle.run_register.specs.Memory.{divergence_of}
use Rattle.run_register.specs.Register.{divergence_cmp}
use Rattle.run_register.proofs.mem_keeper.place_of_accepted.Given as goal

abbrev pub invariant-loop-other : goal.invariant-loop-other
invariant-loop-other l = record {
  index : l.place ≡ l.other-index;
  rest : l.place + place_of divergence_cmp (divergence_of l.accepted).0 (map divergence_of (drop l.other-index l.all)) ≡ place_of divergence_cmp (divergence_of l.accepted).0 (map divergence_of l.all);
}
