use Rattle.std.proofs.Common.{◌≡◌, ℕ, if◌then◌else◌, take}
use Rattle.std.specs.BTreeMap.{get}
use Rattle.std.specs.List.{list_any}
use Rattle.std.specs.Option.{option_map}
use Rattle.std.specs.Ordering.{nat_cmp}
use Rattle.row_versions.specs.History.{is_of_row, seen_of}
use Rattle.row_versions.proofs.versions.place_behind.Given as goal

abbrev pub invariant-loop-version : goal.invariant-loop-version
invariant-loop-version l = (row : ℕ) → get nat_cmp l.last row ≡ (if list_any (is_of_row row) (seen_of (take l.version-index l.list)) then option_map (λ _. l.behind) (get nat_cmp l.fn.last row) else get nat_cmp l.fn.last row)
