use Rattle.std.proofs.Common.{◌≡◌, ℕ, ◌-◌, drop, length}
use Rattle.std.specs.BTreeMap.{get}
use Rattle.std.specs.Ordering.{nat_cmp}
use Rattle.run_register.specs.Comparison.{line_at}
use Rattle.run_register.proofs.comparison.by_stamp.Given as goal

abbrev pub invariant-loop-step : goal.invariant-loop-step
invariant-loop-step l = (stamp : ℕ) → get nat_cmp l.map stamp ≡ line_at (drop (length l.lines - l.step) l.lines) stamp
