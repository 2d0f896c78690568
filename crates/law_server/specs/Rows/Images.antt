-- What replacing each id makes of an image, and of the value of an expression.
use Rattle.std.specs.Prelude.{◌≡◌, List, Option, None, Some, Result, Ok, Err}
use Rattle.std.specs.List.{Contains}
use Rattle.desk_values.specs.declared.value.Value.{Value}
use Rattle.desk_values.specs.declared.value.Image.{Image}
use Rattle.desk_values.specs.declared.fault.Fault.{Fault}
use Rattle.id_pairs.specs.declared.Id.TheVariants.{Row}
use Rattle.id_pairs.specs.Pairs.{IdPair}
use Rattle.id_pairs.specs.Renaming.{AreRenamed, IsRenamed}

-- what is left of a row, or that it is gone
abbrev pub IsRenamedLeft : List IdPair → Option (List Value) → Option (List Value) → Type 0
IsRenamedLeft pairs None None = Unit {0}
IsRenamedLeft pairs (Some values) (Some others) = AreRenamed pairs values others
IsRenamedLeft pairs left other = ⊥

-- the row's number and its values are renamed, the table stays
pub record IsRenamedImage (pairs : List IdPair) (image other : Image) : Type 0 where
  pub row : Contains pairs (Row image.row, Row other.row)
  pub table : image.table ≡ other.table
  pub left : IsRenamedLeft pairs image.left other.left

-- the value is renamed, a fault stays
abbrev pub IsRenamedResult : List IdPair → Result Value Fault → Result Value Fault → Type 0
IsRenamedResult pairs (Ok value) (Ok other) = IsRenamed pairs value other
IsRenamedResult pairs (Err fault) (Err other) = fault ≡ other
IsRenamedResult pairs result other = ⊥
