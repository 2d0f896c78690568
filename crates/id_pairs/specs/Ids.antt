-- The ids among values.
use Rattle.std.specs.Prelude.{Bool, false, ◌&&◌, ◌==◌, Option, None, Some}
use Rattle.desk_values.specs.declared.value.Value.{Value}
use Rattle.desk_values.specs.declared.value.Value.TheVariants as value
use Rattle.id_pairs.specs.declared.Id.{Id}
use Rattle.id_pairs.specs.declared.Id.TheVariants.{Row, Draw}

-- the id that the value is
abbrev pub id_of : Value → Option Id
id_of (value.Row n) = Some (Row n)
id_of (value.Draw sequence n) = Some (Draw sequence n)
id_of other = None

abbrev pub id_value : Id → Value
id_value (Row n) = value.Row n
id_value (Draw sequence n) = value.Draw sequence n

abbrev pub same_id : Id → Id → Bool
same_id (Row a) (Row b) = a == b
same_id (Draw p a) (Draw q b) = p == q && a == b
same_id id other = false
