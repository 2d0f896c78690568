use Rattle.std.proofs.Common.{◌≡◌, ℕ, true, false, Some, take, length}
use Rattle.std.specs.BTreeMap.{get}
use Rattle.std.specs.List.{list_any}
use Rattle.std.specs.Option.{unwrap_or}
use Rattle.std.specs.Ordering.{nat_cmp}
use Rattle.row_versions.specs.History.{is_of_row, seen_of}
use Rattle.row_versions.specs.Inside.Links.{AreLinked, last_place}
use Rattle.row_versions.proofs.versions.link_all.Given as goal

abbrev pub invariant-loop-at : goal.invariant-loop-at
invariant-loop-at l = record {
  seen : seen_of l.list.items ≡ seen_of l.fn.list.items;
  len : length l.list.items ≡ length l.fn.list.items;
  linked : AreLinked (take l.at l.list.items);
  placed : (row : ℕ) → list_any (is_of_row row) (seen_of l.fn.list.items) ≡ true → get nat_cmp l.last row ≡ Some (unwrap_or (last_place row (take l.at l.list.items)) l.behind);
  others : (row : ℕ) → list_any (is_of_row row) (seen_of l.fn.list.items) ≡ false → get nat_cmp l.last row ≡ get nat_cmp l.fn.last row;
}
