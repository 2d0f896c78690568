use Rattle.std.proofs.Common.{◌≡◌, ℕ, None, take}
use Rattle.std.specs.Prelude.{nat_eq, if◌then◌else◌}
use Rattle.std.specs.List.{list_any}
use Rattle.hold_index.specs.Told.{session_in}
use Rattle.machine_stores.specs.Holds.{prints_of}
use Rattle.call_deeds.proofs.holding.free_keys.Given as goal

abbrev pub invariant-loop-held : goal.invariant-loop-held
invariant-loop-held l = record {
  kept : l.holds.is_kept ≡ l.fn.holds.is_kept;
  rows : l.holds.rows ≡ l.fn.holds.rows;
  prints : (n : ℕ) → session_in l.holds.prints n ≡ (if list_any (nat_eq n) (prints_of (take l.held-index l.keys)) then None else session_in l.fn.holds.prints n);
}
