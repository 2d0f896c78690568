-- When two views are one but for ids. It is said of the views as they are handed out, whatever stands in their lists.
use Rattle.std.specs.Prelude.{◌≡◌, List}
use Rattle.std.specs.List.{AllZip}
use Rattle.server_words.specs.declared.views.Point.{Point}
use Rattle.server_words.specs.declared.views.View.{View}
use Rattle.id_pairs.specs.Pairs.{IdPair}
use Rattle.id_pairs.specs.Renaming.{IsRenamed}
use Rattle.law_server.specs.Rows.Images.{IsRenamedImage}
use Rattle.law_server.specs.Renaming.Twins.{AreSets, IsRenamedRow}
use Rattle.twin_tables.specs.Members.{IsRenamedKeyId}

-- savepoints of one name; changes, rows and keys as sets
pub record AreTwinPoints (pairs : List IdPair) (point other : Point) : Type 0 where
  pub name : point.name ≡ other.name
  pub changes : AreSets (IsRenamedImage pairs) point.changes other.changes
  pub held_rows : AreSets (IsRenamedRow pairs) point.held_rows other.held_rows
  pub held_keys : AreSets (IsRenamedKeyId pairs) point.held_keys other.held_keys

-- Rights and whether it only reads agree; each id of the first view has an image, and with the images in their places it is the
-- second. Savepoints go one by one, and each other list as a set: in what order it stands and how often does not matter.
pub record AreTwins (pairs : List IdPair) (view other : View) : Type 0 where
  pub rights : view.rights ≡ other.rights
  pub read_only : view.read_only ≡ other.read_only
  pub changes : AreSets (IsRenamedImage pairs) view.changes other.changes
  pub held_rows : AreSets (IsRenamedRow pairs) view.held_rows other.held_rows
  pub held_keys : AreSets (IsRenamedKeyId pairs) view.held_keys other.held_keys
  pub points : AllZip (AreTwinPoints pairs) view.points other.points
  pub rows : AreSets (IsRenamedImage pairs) view.rows other.rows
  pub others_rows : AreSets (IsRenamedRow pairs) view.others_rows other.others_rows
  pub others_keys : AreSets (IsRenamed pairs) view.others_keys other.others_keys
