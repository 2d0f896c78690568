use Rattle.std.proofs.Common.{◌≡◌, ◌++◌, drop}
use Rattle.run_register.proofs.Keeping.{told}
use Rattle.run_register.proofs.mem_keeper.accepts_of.Given as goal

abbrev pub invariant-loop-accepted : goal.invariant-loop-accepted
invariant-loop-accepted l = l.list ++ told l.name (drop l.accepted-index l.all) ≡ told l.name l.all
