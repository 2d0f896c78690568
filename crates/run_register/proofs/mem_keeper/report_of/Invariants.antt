use Rattle.std.proofs.Common.{◌≡◌, drop, map}
use Rattle.std.specs.FinMap.{find}
use Rattle.run_register.specs.Register.{entry_of, name_cmp}
use Rattle.run_register.proofs.mem_keeper.report_of.Given as goal

abbrev pub invariant-loop-kept : goal.invariant-loop-kept
invariant-loop-kept l = find name_cmp l.name (map entry_of (drop l.kept-index l.runs)) ≡ find name_cmp l.name (map entry_of l.runs)
