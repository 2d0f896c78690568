-- When rows are equal as bags, and images as finite maps from a row to its table and what is left of it.
use Rattle.std.specs.Prelude.{ℕ, Bool, true, false, ◌&&◌, ◌==◌, List, ◌++◌, Option, None, Some}
use Rattle.std.specs.List.{count_by, find, list_all}
use Rattle.std.specs.Ordering.{is_eq}
use Rattle.desk_values.specs.declared.value.Value.{Value}
use Rattle.desk_values.specs.declared.value.Image.{Image}
use Rattle.desk_values.specs.Sorting.{value_by_value}

-- neither stands before the other
abbrev pub same_row : List Value → List Value → Bool
same_row row other = is_eq (value_by_value row other)

-- how often a row stands among these
abbrev pub times : List (List Value) → List Value → ℕ
times rows row = count_by (same_row row) rows

-- each row of the two stands as often in the one as in the other
abbrev pub same_bag : List (List Value) → List (List Value) → Bool
same_bag rows others = list_all (λ row. times rows row == times others row) (rows ++ others)

-- the image of the row with this number; the first one, where there are several
abbrev pub found : List Image → ℕ → Option Image
found images row = find (λ image. image.row == row) images

abbrev pub same_left : Option (List Value) → Option (List Value) → Bool
same_left None None = true
same_left (Some values) (Some others) = same_row values others
same_left left other = false

-- two images of one row
abbrev pub same_image : Option Image → Option Image → Bool
same_image None None = true
same_image (Some image) (Some other) = image.table == other.table && same_left image.left other.left
same_image image other = false

-- each row of the two has the same image in both
abbrev pub same_map : List Image → List Image → Bool
same_map images others = list_all (λ image. same_image (found images image.row) (found others image.row)) (images ++ others)
