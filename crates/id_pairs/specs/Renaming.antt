-- What replacing each id by its image makes of values.
use Rattle.std.specs.Prelude.{◌≡◌, List, [], ◌∷◌}
use Rattle.std.specs.List.{Contains}
use Rattle.desk_values.specs.declared.value.Value.{Value}
use Rattle.desk_values.specs.declared.value.Value.TheVariants as value
use Rattle.id_pairs.specs.declared.Id.TheVariants.{Row, Draw}
use Rattle.id_pairs.specs.Pairs.{IdPair}

-- the second is the first with its id replaced by the image; an id without an image is replaced by nothing
abbrev pub IsRenamed : List IdPair → Value → Value → Type 0
IsRenamed pairs value.Null value.Null = Unit {0}
IsRenamed pairs (value.Int a) (value.Int b) = a ≡ b
IsRenamed pairs (value.Text a) (value.Text b) = a ≡ b
IsRenamed pairs (value.Row a) (value.Row b) = Contains pairs (Row a, Row b)
IsRenamed pairs (value.Draw p a) (value.Draw q b) = Contains pairs (Draw p a, Draw q b)
IsRenamed pairs other value = ⊥

-- place by place
abbrev pub AreRenamed : List IdPair → List Value → List Value → Type 0
AreRenamed pairs [] [] = Unit {0}
AreRenamed pairs (value ∷ values) (other ∷ others) = IsRenamed pairs value other × AreRenamed pairs values others
AreRenamed pairs values others = ⊥
