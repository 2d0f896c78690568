use Rattle.std.proofs.Common.{◌≡◌, ℕ, take}
use Rattle.std.specs.BTreeSet.{contains}
use Rattle.run_register.specs.Comparison.{is_accepted}
use Rattle.run_register.specs.Inside.{pair_cmp}
use Rattle.run_register.proofs.comparison.pairs_of.Given as goal

abbrev pub invariant-loop-accept : goal.invariant-loop-accept
invariant-loop-accept l = (stamp class : ℕ) → contains pair_cmp l.pairs (stamp, class) ≡ is_accepted (take l.accept-index l.accepted) stamp class
