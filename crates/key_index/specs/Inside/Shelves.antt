-- Rows by their keys, on a shelf for each print.
use Rattle.std.specs.Prelude.{◌≡◌, ℕ, ◌+◌, Bool, false, Option, None, Some, nat_eq, nat_lt, if◌then◌else◌, List, [], ◌∷◌}
use Rattle.std.specs.BTreeMap.{is_at}
use Rattle.std.specs.Map.{keys_of, lookup}
use Rattle.std.specs.Option.{unwrap_or}
use Rattle.std.specs.List.Sorted.{IsStrictlySortedBy}
use Rattle.std.specs.Ordering.{nat_cmp}
use Rattle.desk_values.specs.declared.value.Value.{Value}
use Rattle.same_keys.specs.Print.{print_of}
use Rattle.key_index.specs.declared.shelf.Group.{Group}
use Rattle.key_index.specs.Triples.{RisesFrom, is_one, with_number, without_number}

-- ---- numbers of rows, ascending

-- how many stand in front
abbrev pub place : ℕ → List ℕ → ℕ
place row [] = 0
place row (x ∷ xs) = if nat_lt x row then place row xs + 1 else 0

-- there is a number, and it is this one
abbrev pub is_number : ℕ → Option ℕ → Bool
is_number row None = false
is_number row (Some x) = nat_eq x row

-- ---- the keys of a print

abbrev pub is_of_key : ℕ → ℕ → Value → Group → Bool
is_of_key level table key group = is_one level group.table group.key table key

abbrev pub rows_in : ℕ → ℕ → Value → List Group → List ℕ
rows_in level table key [] = []
rows_in level table key (group ∷ groups) = if is_of_key level table key group then group.rows else rows_in level table key groups

-- with the rows of a key changed; these groups come where it has none
abbrev pub changed : ℕ → ℕ → Value → (List ℕ → List ℕ) → List Group → List Group → List Group
changed level table key change more [] = more
changed level table key change more (group ∷ groups) = if is_of_key level table key group then record group { rows = change group.rows } ∷ groups else group ∷ changed level table key change more groups

abbrev pub noted : ℕ → ℕ → Value → ℕ → List Group → List Group
noted level table key row groups = changed level table key (with_number row) (record { table = table; key = key; rows = row ∷ [] } ∷ []) groups

abbrev pub dropped : ℕ → ℕ → Value → ℕ → List Group → List Group
dropped level table key row groups = changed level table key (without_number row) [] groups

abbrev pub position_of : ℕ → ℕ → Value → List Group → ℕ
position_of level table key [] = 0
position_of level table key (group ∷ groups) = if is_of_key level table key group then 0 else position_of level table key groups + 1

-- none of them is of the group's key
abbrev pub IsApart : ℕ → Group → List Group → Type 0
IsApart level group [] = Unit {0}
IsApart level group (other ∷ groups) = (is_one level group.table group.key other.table other.key ≡ false) × IsApart level group groups

-- groups of one print, each of another key, with rows that ascend
abbrev pub IsShelf : ℕ → ℕ → List Group → Type 0
IsShelf level print [] = Unit {0}
IsShelf level print (group ∷ groups) = (print_of group.key ≡ print) × RisesFrom 0 group.rows × IsApart level group groups × IsShelf level print groups

-- ---- all of them

abbrev pub shelf_at : List (ℕ × List Group) → ℕ → List Group
shelf_at shelves print = unwrap_or (lookup (is_at (nat_cmp print)) shelves) []

abbrev pub IsInOrder : List (ℕ × List Group) → Type 0
IsInOrder shelves = IsStrictlySortedBy nat_cmp (keys_of shelves)

pub record AreShelves (level : ℕ) (shelves : List (ℕ × List Group)) : Type 0 where
  pub order : IsInOrder shelves
  pub each : (print : ℕ) → IsShelf level print (shelf_at shelves print)
