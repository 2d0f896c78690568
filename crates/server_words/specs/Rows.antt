-- Images of rows, ascending by row: what a start, a commit or a session has of its rows, and how changes are laid over them.
use Rattle.std.specs.Prelude.{ℕ, ◌+◌, ◌≤◌, Bool, nat_eq, nat_lt, if◌then◌else◌, List, [], ◌∷◌, ◌++◌, map, is_some, Option, None, Some}
use Rattle.std.specs.List.{filter, flat_map}
use Rattle.desk_values.specs.declared.value.Value.{Value}
use Rattle.desk_values.specs.declared.value.Image.{Image}
use Rattle.desk_schema.specs.Rules.{key_of}
use Rattle.sql_eval.specs.Totals.{values_in}

-- the rows rise, from this number on
abbrev pub RisesFrom : ℕ → List Image → Type 0
RisesFrom n [] = Unit {0}
RisesFrom n (image ∷ images) = (n ≤ image.row) × RisesFrom (image.row + 1) images

abbrev pub IsRising : List Image → Type 0
IsRising images = RisesFrom 0 images

-- ---- one row

-- the first value of a row tells it apart from the others of its table
abbrev pub row_key : Image → Value
row_key image = key_of (values_in image)

abbrev pub row_numbers : List Image → List ℕ
row_numbers images = map (λ (image : Image). image.row) images

-- the row is not gone
abbrev pub is_there : Image → Bool
is_there image = is_some image.left

-- ---- changes

-- what stands of a row among rows: nothing where it is gone
abbrev pub shown : Image → List Image
shown image = if is_there image then image ∷ [] else []

abbrev pub one : Image → List Image
one image = image ∷ []

-- rows with what a change shows in the place of its row, or between the rows below and those above
abbrev pub placed : (Image → List Image) → Image → List Image → List Image
placed show new [] = show new
placed show new (old ∷ rest) = if nat_lt old.row new.row then old ∷ placed show new rest else if nat_eq old.row new.row then show new ++ rest else show new ++ old ∷ rest

-- changes and then further ones: of each row the last is kept, that it is gone too
abbrev pub noted : List Image → List Image → List Image
noted changes [] = changes
noted changes (image ∷ images) = noted (placed one image changes) images

-- rows with these changes laid over them, one after another: a row that is gone is dropped
abbrev pub lay : List Image → List Image → List Image
lay rows [] = rows
lay rows (change ∷ changes) = lay (placed shown change rows) changes

-- the same of commits, in their order
abbrev pub lay_all : List Image → List (List Image) → List Image
lay_all rows [] = rows
lay_all rows (commit ∷ commits) = lay_all (lay rows commit) commits

-- those of one table
abbrev pub of_table : ℕ → List Image → List Image
of_table table images = filter (λ (image : Image). nat_eq image.table table) images

-- the row of this number
abbrev pub row_at : ℕ → List Image → Option Image
row_at row [] = None
row_at row (image ∷ images) = if nat_eq image.row row then Some image else row_at row images

-- the rows that changes show
abbrev pub all_shown : List Image → List Image
all_shown changes = flat_map shown changes
