-- What calls stand on, and which rows of a table a session sees. Words of private clauses; they need not be believed.
use Rattle.std.specs.Prelude.{◌≡◌, ℕ, Bool, ◌&&◌, nat_eq, is_some, List, Option, None, Some}
use Rattle.std.specs.List.{AllZip, filter, find}
use Rattle.desk_values.specs.declared.value.Image.{Image}
use Rattle.machine_model.specs.declared.footing.Footing.{Footing}
use Rattle.server_words.specs.declared.views.View.{View}
use Rattle.id_pairs.specs.Pairs.{IdPair}
use Rattle.id_pairs.specs.Renaming.{IsRenamed}
use Rattle.law_server.specs.Rows.Images.{IsRenamedImage}
use Rattle.law_server.specs.Renaming.Twins.{AreSets, IsRenamedRow}
use Rattle.row_versions.specs.History.{Written}
use Rattle.twin_tables.specs.declared.judging.Sides.{Sides}
use Rattle.twin_tables.specs.Ledger.{told}
use Rattle.twin_tables.specs.Members.{IsRenamedKeyId}
use Rattle.replay_walk.specs.Twins.{AreTwinPoints}

-- what a session has of its own is one in both but for ids
pub record HaveTwinOwn (pairs : List IdPair) (view other : View) : Type 0 where
  pub rights : view.rights ≡ other.rights
  pub read_only : view.read_only ≡ other.read_only
  pub changes : AreSets (IsRenamedImage pairs) view.changes other.changes
  pub held_rows : AreSets (IsRenamedRow pairs) view.held_rows other.held_rows
  pub held_keys : AreSets (IsRenamedKeyId pairs) view.held_keys other.held_keys
  pub points : AllZip (AreTwinPoints pairs) view.points other.points

-- so is what two calls stand on, but for rows that others hold
pub record HaveTwinFootings (pairs : List IdPair) (met meets : Footing) : Type 0 where
  pub own : HaveTwinOwn pairs met.own meets.own
  pub held_keys : AreSets (IsRenamed pairs) met.held_keys meets.held_keys

-- a change to this row of this table
abbrev pub is_change : ℕ → ℕ → Image → Bool
is_change table row image = nat_eq image.row row && nat_eq image.table table

-- a row is seen where its change leaves it, or where there is none and it stands
abbrev pub is_seen_so : Option Image → Option Image → Bool
is_seen_so (Some change) stood = is_some change.left
is_seen_so None stood = is_some stood

abbrev pub is_seen : List Written → ℕ → List Image → ℕ → ℕ → Bool
is_seen list at own table row = is_seen_so (find (is_change table row) own) (told list at row)

-- those of these rows that are seen on either side
abbrev pub held_captured : Sides → List ℕ → List ℕ
held_captured with rows = filter (is_seen with.captured.now.list with.captured_at with.own.now with.table) rows

abbrev pub held_replayed : Sides → List ℕ → List ℕ
held_replayed with rows = filter (is_seen with.replayed.now.list with.replayed_at with.others.now with.table) rows
