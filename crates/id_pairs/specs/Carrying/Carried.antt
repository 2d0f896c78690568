-- Values, rows and images with each id replaced by its image. Where one of their ids has no image, nothing stands for them.
use Rattle.std.specs.Prelude.{ℕ, List, [], ◌∷◌, Option, None, Some}
use Rattle.std.specs.Option.{option_and_then, option_map}
use Rattle.desk_values.specs.declared.value.Value.{Value}
use Rattle.desk_values.specs.declared.value.Image.{Image}
use Rattle.id_pairs.specs.declared.Id.{Id}
use Rattle.id_pairs.specs.declared.Id.TheVariants.{Row, Draw}
use Rattle.id_pairs.specs.Ids.{id_of, id_value}
use Rattle.id_pairs.specs.Pairs.{IdPair, image_in}

-- what f gives for each item, where it gives something for all of them
abbrev pub each_some : {A B : Type 0} → (A → Option B) → List A → Option (List B)
each_some f [] = Some []
each_some f (first ∷ others) = option_and_then (λ x. option_map (λ xs. x ∷ xs) (each_some f others)) (f first)

-- a value that is no id stays
abbrev pub carried_or : List IdPair → Value → Option Id → Option Value
carried_or pairs value None = Some value
carried_or pairs value (Some id) = option_map id_value (image_in pairs id)

abbrev pub carried_value : List IdPair → Value → Option Value
carried_value pairs value = carried_or pairs value (id_of value)

abbrev pub carried_row : List IdPair → List Value → Option (List Value)
carried_row pairs = each_some (carried_value pairs)

abbrev pub carried_rows : List IdPair → List (List Value) → Option (List (List Value))
carried_rows pairs = each_some (carried_row pairs)

-- the number of the row that the id is
abbrev pub row_of : Id → Option ℕ
row_of (Row n) = Some n
row_of (Draw sequence n) = None

abbrev pub carried_number : List IdPair → ℕ → Option ℕ
carried_number pairs row = option_and_then row_of (image_in pairs (Row row))

-- a row that is gone stays gone
abbrev pub carried_left : List IdPair → Option (List Value) → Option (Option (List Value))
carried_left pairs None = Some None
carried_left pairs (Some values) = option_map Some (carried_row pairs values)

abbrev pub carried_image : List IdPair → Image → Option Image
carried_image pairs image = option_and_then (λ row. option_map (λ left. record { row = row; table = image.table; left = left }) (carried_left pairs image.left)) (carried_number pairs image.row)

abbrev pub carried_images : List IdPair → List Image → Option (List Image)
carried_images pairs = each_some (carried_image pairs)
