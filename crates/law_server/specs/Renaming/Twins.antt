-- Twins: views and calls that differ in ids and in the order of rows alone.
use Rattle.std.specs.Prelude.{◌≡◌, ℕ, List, is_some}
use Rattle.std.specs.List.{AllZip, Contains}
use Rattle.desk_values.specs.declared.value.Value.{Value}
use Rattle.desk_values.specs.declared.call.Call.{Call}
use Rattle.desk_values.specs.declared.call.Call.TheVariants.{Connect, Sql, Disconnect}
use Rattle.desk_schema.specs.Schema.{SchemaView, rights_of}
use Rattle.server_words.specs.declared.session.Savepoint.{Savepoint}
use Rattle.server_words.specs.declared.session.HeldKey.{HeldKey}
use Rattle.server_words.specs.Rows.{IsRising}
use Rattle.server_words.specs.View.{View}
use Rattle.id_pairs.specs.declared.Id.TheVariants.{Row}
use Rattle.id_pairs.specs.Pairs.{IdPair}
use Rattle.id_pairs.specs.Renaming.{AreRenamed, IsRenamed}
use Rattle.law_server.specs.Rows.Images.{IsRenamedImage}

-- each item of either list has one that is related to it in the other
pub record AreSets {A B : Type 0} (R : A → B → Type 0) (xs : List A) (ys : List B) : Type 0 where
  pub forth : (x : A) → Contains xs x → (y : B) × Contains ys y × R x y
  pub back : (y : B) → Contains ys y → (x : A) × Contains xs x × R x y

abbrev pub IsRenamedRow : List IdPair → ℕ → ℕ → Type 0
IsRenamedRow pairs row other = Contains pairs (Row row, Row other)

pub record IsRenamedKey (pairs : List IdPair) (held other : HeldKey) : Type 0 where
  pub table : held.table ≡ other.table
  pub key : IsRenamed pairs held.key other.key

-- of one name; and what was kept differs in ids and in order alone
pub record AreTwinSavepoints (pairs : List IdPair) (savepoint other : Savepoint) : Type 0 where
  pub name : savepoint.name ≡ other.name
  pub changes : AreSets (IsRenamedImage pairs) savepoint.own.changes other.own.changes
  pub own_rows : AreSets (IsRenamedRow pairs) savepoint.own.rows other.own.rows
  pub own_keys : AreSets (IsRenamedKey pairs) savepoint.own.keys other.own.keys

-- rights and whether it only reads agree; each id of the first view has an image, and with the images in their places it is
-- the second: own changes, rows, and all that is held, by whomever, as sets, and savepoints one by one
pub record AreTwinViews (pairs : List IdPair) (view other : View) : Type 0 where
  pub rights : view.rights ≡ other.rights
  pub reads_only : view.reads_only ≡ other.reads_only
  pub changes : AreSets (IsRenamedImage pairs) view.own.changes other.own.changes
  pub own_rows : AreSets (IsRenamedRow pairs) view.own.rows other.own.rows
  pub own_keys : AreSets (IsRenamedKey pairs) view.own.keys other.own.keys
  pub savepoints : AllZip (AreTwinSavepoints pairs) view.savepoints other.savepoints
  pub rows : AreSets (IsRenamedImage pairs) view.rows other.rows
  pub locked : AreSets (IsRenamedImage pairs) view.locked other.locked
  pub locked_keys : AreSets (IsRenamed pairs) view.locked_keys other.locked_keys

-- of each row the view has one image: own changes and rows rise, as in all states that a server comes to
pub record IsRisingView (view : View) : Type 0 where
  pub changes : IsRising view.own.changes
  pub rows : IsRising view.rows

-- both end the session; or both have one text, and the binds are renamed; or both connect, to services that the schema
-- knows both or neither
pub data AreTwinCalls (schema : SchemaView) (pairs : List IdPair) : Call → Call → Type 0 where
  ends : AreTwinCalls schema pairs Disconnect Disconnect
  asks : (text : List ℕ) (binds sent : List Value) → AreRenamed pairs binds sent
      → AreTwinCalls schema pairs (Sql text binds) (Sql text sent)
  connects : (service other : List ℕ)
      → is_some (rights_of schema.services service) ≡ is_some (rights_of schema.services other)
      → AreTwinCalls schema pairs (Connect service) (Connect other)
