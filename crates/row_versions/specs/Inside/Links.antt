-- Where the versions of a row stand.
use Rattle.std.specs.Prelude.{◌≡◌, ◌⊎◌, ℕ, ◌+◌, ◌≤◌, ◌<◌, ◌&&◌, Bool, true, false, not, nat_eq, nat_le, nat_lt, is_some, if◌then◌else◌, List, [], ◌∷◌, length, take, slice_get, slice_index_or, Option, None, Some}
use Rattle.std.specs.List.{flat_map, list_any}
use Rattle.desk_values.specs.declared.value.Image.{Image}
use Rattle.std.specs.BTreeMap.{BTreeMap, get}
use Rattle.std.specs.Ordering.{nat_cmp}
use Rattle.row_versions.specs.declared.versions.Version.{Version}
use Rattle.row_versions.specs.History.{Written, is_of_row, left_of, or_else, row_at, seen_of}

-- the numbers rise, or stay
abbrev pub Ascends : ℕ → List Written → Type 0
Ascends low [] = Unit {0}
Ascends low (written ∷ rest) = (low ≤ written.number) × Ascends written.number rest

-- where the row's last version stands, these being those from this place on
abbrev pub last_from : ℕ → ℕ → List Version → Option ℕ
last_from at row [] = None
last_from at row (version ∷ rest) = or_else (last_from (at + 1) row rest) (if nat_eq version.image.row row then Some at else None)

abbrev pub last_place : ℕ → List Version → Option ℕ
last_place row list = last_from 0 row list

-- each version names the place of the one before it
abbrev pub AreLinked : List Version → Type 0
AreLinked list = (at : ℕ) (version : Version) → slice_get list at ≡ Some version → version.before ≡ last_place version.image.row (take at list)

pub record IsKept (list : List Version) (last : BTreeMap ℕ ℕ) : Type 0 where
  pub ascends : Ascends 0 (seen_of list)
  pub linked : AreLinked list
  pub lasts : (row : ℕ) → get nat_cmp last row ≡ last_place row list

-- where a search for a number up to n goes on behind the version at this place, before which this one stands: there, or at an earlier
-- version of the row that is over the number too
abbrev pub IsBehind : List Version → ℕ → ℕ → ℕ → Option ℕ → Option ℕ → Type 0
IsBehind list row n at before next = (next ≡ before)
    ⊎ ((place : ℕ) × (version : Version) × (next ≡ Some place) × (place < at) × (slice_get list place ≡ Some version) × (version.image.row ≡ row) × (n < version.number))

-- ---- the rows at a number

-- an image that there may be, as a list
abbrev pub listed : Option Image → List Image
listed None = []
listed (Some image) = image ∷ []

-- what is left of each row that the map has
abbrev pub all_left : List Written → ℕ → List (ℕ × ℕ) → List Image
all_left list number entries = flat_map (λ (entry : ℕ × ℕ). listed (left_of (row_at list entry.0 number))) entries

-- ---- what reads need

-- a version of the row stands among them, with a number up to this one
abbrev pub has_row : ℕ → ℕ → List Version → Bool
has_row row number list = list_any (λ (version : Version). nat_eq version.image.row row && nat_le version.number number) list

-- reads from this number on find the version: it is over the number, or the last up to it of a row that is not gone
abbrev pub is_needed : ℕ → Version → List Version → Bool
is_needed number version later = if nat_le version.number number then is_some version.image.left && not (has_row version.image.row number later) else true

abbrev pub needed : ℕ → List Version → List Version
needed number [] = []
needed number (version ∷ later) = if is_needed number version later then version ∷ needed number later else needed number later

-- ---- versions that are let go

-- each is marked as reads from a number on need it
abbrev pub marked : ℕ → List Version → List Version
marked number [] = []
marked number (version ∷ later) = record version { is_needed = is_needed number version later } ∷ marked number later

abbrev pub is_marked : Version → Bool
is_marked version = version.is_needed

-- a row is placed behind all versions
abbrev pub is_unplaced : ℕ → Option ℕ → Bool
is_unplaced behind None = false
is_unplaced behind (Some place) = nat_eq place behind

-- a place in front of all that
abbrev pub places_below : ℕ → Option ℕ → Option ℕ
places_below behind None = None
places_below behind (Some place) = if nat_lt place behind then Some place else None

-- so is each row that has versions
abbrev pub ArePlacedBehind : ℕ → List Version → BTreeMap ℕ ℕ → Type 0
ArePlacedBehind behind list last = (row : ℕ) → list_any (is_of_row row) (seen_of list) ≡ true → get nat_cmp last row ≡ Some behind

-- the version at a place names this one as the one before it, and all else of the list is read as it was
pub record IsLinkedAt (at : ℕ) (before : Option ℕ) (default : Version) (old new : List Version) : Type 0 where
  pub linked : (slice_index_or new at default).before ≡ before
  pub seen : seen_of new ≡ seen_of old
  pub front : take at new ≡ take at old
  pub len : length new ≡ length old
