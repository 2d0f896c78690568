-- Items of lists that are compared as sets: their images under a map of ids, and their order.
use Rattle.std.specs.Prelude.{◌≡◌, List, Option, None, Some}
use Rattle.std.specs.Option.{option_map}
use Rattle.std.specs.Ordering.{nat_cmp, ordering_then}
use Rattle.std.specs.declared.cmp.Ordering.{Ordering}
use Rattle.std.specs.declared.cmp.Ordering.TheVariants.{Less, Equal, Greater}
use Rattle.desk_values.specs.declared.value.Value.{Value}
use Rattle.desk_values.specs.declared.value.Image.{Image}
use Rattle.desk_values.specs.Sorting.{value_by_value}
use Rattle.server_words.specs.declared.views.KeyId.{KeyId}
use Rattle.id_pairs.specs.Pairs.{IdPair}
use Rattle.id_pairs.specs.Renaming.{IsRenamed}
use Rattle.id_pairs.specs.Carrying.Carried.{carried_value}

-- the key with its id replaced by the image, where it has one
abbrev pub carried_key : List IdPair → KeyId → Option KeyId
carried_key pairs key = option_map (λ value. record { table = key.table; key = value }) (carried_value pairs key.key)

-- a row that is gone stands first
abbrev pub order_of_left : Option (List Value) → Option (List Value) → Ordering
order_of_left None None = Equal
order_of_left None (Some others) = Less
order_of_left (Some values) None = Greater
order_of_left (Some values) (Some others) = value_by_value values others

-- by row, then by table, then by what is left
abbrev pub image_order : Image → Image → Ordering
image_order image other = ordering_then (nat_cmp image.row other.row) (ordering_then (nat_cmp image.table other.table) (order_of_left image.left other.left))

-- keys of one table, whose values are renamed
pub record IsRenamedKeyId (pairs : List IdPair) (key other : KeyId) : Type 0 where
  pub table : key.table ≡ other.table
  pub value : IsRenamed pairs key.key other.key
