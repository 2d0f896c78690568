use Rattle.std.proofs.Common.{◌≡◌, ◌++◌, ◌≤◌, ℕ, true, not, take, drop, length}
use Rattle.std.specs.Prelude.{is_some}
use Rattle.std.specs.BTreeMap.{get}
use Rattle.std.specs.List.{list_any}
use Rattle.std.specs.Ordering.{nat_cmp}
use Rattle.row_versions.specs.History.{is_of_row, seen_of}
use Rattle.row_versions.specs.Inside.Links.{has_row, is_unplaced, marked}
use Rattle.row_versions.proofs.versions.mark.Given as goal

abbrev pub decreases-loop-at : goal.decreases-loop-at
decreases-loop-at l = l.at

abbrev pub invariant-loop-at : goal.invariant-loop-at
invariant-loop-at l = record {
  within : l.at ≤ length l.fn.list.items;
  list : l.list.items ≡ take l.at l.fn.list.items ++ marked l.n (drop l.at l.fn.list.items);
  met : (row : ℕ) → list_any (is_of_row row) (seen_of l.fn.list.items) ≡ true → is_unplaced l.behind (get nat_cmp l.last row) ≡ not (has_row row l.n (drop l.at l.fn.list.items));
  rows : (row : ℕ) → is_some (get nat_cmp l.last row) ≡ is_some (get nat_cmp l.fn.last row);
}
