-- The ids of a value, a list, an image and a made row: what a client knows only from the server.
use Rattle.std.specs.Prelude.{ℕ, Bool, true, false, List, [], ◌∷◌, Option, None, Some}
use Rattle.std.specs.List.{filter}
use Rattle.desk_values.specs.declared.value.Value.{Value}
use Rattle.desk_values.specs.declared.value.Value.TheVariants.{Null, Int, Text, Row, Draw}
use Rattle.desk_values.specs.declared.value.Image.{Image}

-- the value is an id: the number of a row, or a value that was drawn
abbrev pub is_id : Value → Bool
is_id Null = false
is_id (Int n) = false
is_id (Text text) = false
is_id (Row n) = true
is_id (Draw sequence n) = true

abbrev pub ids_in : List Value → List Value
ids_in values = filter is_id values

abbrev pub ids_left : Option (List Value) → List Value
ids_left None = []
ids_left (Some values) = ids_in values

-- the row and those of its values
abbrev pub ids_of_image : Image → List Value
ids_of_image image = Row image.row ∷ ids_left image.left

abbrev pub ids_made : Option ℕ → List Value
ids_made None = []
ids_made (Some row) = Row row ∷ []
