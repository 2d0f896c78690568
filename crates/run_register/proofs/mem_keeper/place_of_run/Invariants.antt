use Rattle.std.proofs.Common.{◌≡◌, ◌+◌, drop, map}
use Rattle.run_register.specs.Inside.{place_of}
use Rattle.run_register.specs.Register.{entry_of, name_cmp}
use Rattle.run_register.proofs.mem_keeper.place_of_run.Given as goal

abbrev pub invariant-loop-kept : goal.invariant-loop-kept
invariant-loop-kept l = record {
  index : l.place ≡ l.kept-index;
  rest : l.place + place_of name_cmp l.name (map entry_of (drop l.kept-index l.runs)) ≡ place_of name_cmp l.name (map entry_of l.runs);
}
