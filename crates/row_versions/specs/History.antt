-- Versions of rows in the order in which they were written.
use Rattle.std.specs.Prelude.{◌≡◌, ◌⊎◌, ℕ, ◌+◌, ◌≤◌, Bool, true, ◌&&◌, nat_eq, nat_le, if◌then◌else◌, List, [], ◌∷◌, map, Option, None, Some}
use Rattle.std.specs.List.{filter, list_any}
use Rattle.std.specs.Option.{option_map}
use denote.Ref.{Bor}
use Rattle.desk_values.specs.declared.value.Image.{Image}
use Rattle.row_versions.specs.declared.versions.Version.{Version}

-- an image, and the number of the commit that wrote it
pub record Written : Type 0 where
  pub number : ℕ
  pub image : Image

pub record History : Type 0 where
  pub list : List Written
  -- reads go by numbers from this one on
  pub floor : ℕ

abbrev pub is_of_row : ℕ → Written → Bool
is_of_row row written = nat_eq written.image.row row

abbrev pub is_up_to : ℕ → Written → Bool
is_up_to number written = nat_le written.number number

-- the first of two that is there
abbrev pub or_else : {X : Type 0} → Option X → Option X → Option X
or_else (Some x) other = Some x
or_else None other = other

-- the row's last image with a number up to this one
abbrev pub row_at : List Written → ℕ → ℕ → Option Image
row_at [] row number = None
row_at (written ∷ rest) row number = or_else (row_at rest row number) (if is_of_row row written && is_up_to number written then Some written.image else None)

-- the image, if it has values: a row that is gone counts as none
abbrev pub left_of : Option Image → Option Image
left_of None = None
left_of (Some image) = option_map (λ _. image) image.left

-- a read at this number or a later one finds in both lists the same of each row
abbrev pub ReadsStay : ℕ → List Written → List Written → Type 0
ReadsStay number old new = (row later : ℕ) → number ≤ later → left_of (row_at new row later) ≡ left_of (row_at old row later)

-- the new list is the old one but for some that are left out
abbrev pub IsPartOf : List Written → List Written → Type 0
IsPartOf [] old = Unit {0}
IsPartOf (written ∷ new) [] = ⊥
IsPartOf (written ∷ new) (first ∷ old) = ((written ≡ first) × IsPartOf new old) ⊎ IsPartOf (written ∷ new) old

-- ---- all rows at a number

-- the rows rise, from this number on
abbrev pub RowsRise : ℕ → List Image → Type 0
RowsRise low [] = Unit {0}
RowsRise low (image ∷ images) = (low ≤ image.row) × RowsRise (image.row + 1) images

-- the image of a row among images
abbrev pub image_of : ℕ → List Image → Option Image
image_of row [] = None
image_of row (image ∷ images) = if nat_eq image.row row then Some image else image_of row images

-- these are the rows at a number, in order, each as it was last written up to it, where it is not gone
pub record AreRowsAt (list : List Written) (number : ℕ) (images : List Image) : Type 0 where
  pub rise : RowsRise 0 images
  pub each : (row : ℕ) → image_of row images ≡ left_of (row_at list row number)

-- what is looked at
abbrev pub looked : List (Bor Image) → List Image
looked images = map (λ (image : Bor Image). image.now) images

-- ---- the next row

-- a row over this one stands in the list, and none between them
abbrev pub IsNextRow : List Written → ℕ → Option ℕ → Type 0
IsNextRow list row None = (other : ℕ) → list_any (is_of_row other) list ≡ true → other ≤ row
IsNextRow list row (Some next) = (row + 1 ≤ next) × (list_any (is_of_row next) list ≡ true) × ((other : ℕ) → list_any (is_of_row other) list ≡ true → row + 1 ≤ other → next ≤ other)

-- those with a number up to this one
abbrev pub up_to : ℕ → List Written → List Written
up_to number list = filter (is_up_to number) list

-- what versions are seen as
abbrev pub written_of : Version → Written
written_of version = record { number = version.number; image = version.image }

abbrev pub seen_of : List Version → List Written
seen_of list = map written_of list
