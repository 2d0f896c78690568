-- The text of learnt pairs.
use Rattle.std.specs.Prelude.{ℕ, List, [], ◌∷◌, ◌++◌, codes}
use Rattle.std.specs.List.{flat_map}
use Rattle.desk_values.specs.Text.{value_text}
use Rattle.id_pairs.specs.Ids.{id_value}
use Rattle.id_pairs.specs.Pairs.{IdPair}

-- the two ids with a comma between
abbrev pub pair_line : IdPair → List ℕ
pair_line pair = value_text (id_value pair.0) ++ 44 ∷ (value_text (id_value pair.1) ++ 10 ∷ [])

-- a head, then a line for each pair
abbrev pub maps_text : List IdPair → List ℕ
maps_text pairs = codes "captured,replayed\n" ++ flat_map pair_line pairs
