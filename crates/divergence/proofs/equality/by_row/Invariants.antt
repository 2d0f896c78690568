use Rattle.std.proofs.Common.{◌≡◌, ℕ, ◌-◌, drop, length}
use Rattle.std.specs.BTreeMap.{get}
use Rattle.std.specs.Option.{option_copied}
use Rattle.std.specs.Ordering.{nat_cmp}
use Rattle.divergence.specs.Bags.Equality.{found}
use Rattle.divergence.proofs.equality.by_row.Given as goal

abbrev pub invariant-loop-step : goal.invariant-loop-step
invariant-loop-step l = (row : ℕ) → option_copied (get nat_cmp l.map row) ≡ found (drop (length l.images - l.step) l.images) row
