use Rattle.std.proofs.Common.{◌≡◌, ◌++◌, take}
use Rattle.std.specs.BTreeMap.{get}
use Rattle.std.specs.BTreeSet.{contains}
use Rattle.std.specs.Ordering.{nat_cmp}
use Rattle.run_register.specs.Comparison.{of_all_second}
use Rattle.run_register.specs.Inside.{pair_cmp}
use Rattle.run_register.proofs.comparison.append_of_second.Given as goal

abbrev pub invariant-loop-line : goal.invariant-loop-line
invariant-loop-line l = l.to ≡ l.fn.to ++ of_all_second (λ stamp class. contains pair_cmp l.accepted (stamp, class)) (take l.line-index l.b) (get nat_cmp l.a)
