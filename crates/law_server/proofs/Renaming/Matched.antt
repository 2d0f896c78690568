-- Twin views that rise are matched one to one.
use Rattle.std.proofs.Common.{◌≡◌, ℕ, zero, suc, List, [], ◌∷◌, map, Option, None, Some}
use Rattle.std.specs.Prelude.{slice_index_or}
use Rattle.std.specs.List.{AllByRecursion, AllZip}
use Rattle.server_words.specs.Rows.{lay_all, of_table}
use Rattle.server_words.specs.Sound.{HasSoundChanges, IsSoundState}
use Rattle.server_words.specs.State.{State, disconnected, session_at}
use Rattle.server_words.specs.View.{View, commits_seen, view_of}
use Rattle.server_words.specs.Request.{request_of, table_in}
use Rattle.server_words.proofs.Laying.{rising_lay, rising_lay_all}
use Rattle.server_words.proofs.Looks.{rising_of_table}
use Rattle.server_words.proofs.SoundRows.{sound_none}
use Rattle.server_words.proofs.SoundSteps.{tables_stand}
use Rattle.id_pairs.specs.Pairs.{HasNoIdTwice, IdPair}
use Rattle.id_pairs.specs.Renaming.{IsRenamed}
use Rattle.law_server.specs.Rows.Bags.{AreBags}
use Rattle.law_server.specs.Rows.Images.{IsRenamedImage}
use Rattle.law_server.specs.Renaming.Laws.{ViewsRise}
use Rattle.law_server.specs.Renaming.Twins.{AreSets, AreTwinSavepoints, AreTwinViews, IsRenamedKey, IsRenamedRow, IsRisingView}
use Rattle.law_server.proofs.Renaming.Rising.{rising_bags}

-- own changes and rows one to one
pub record AreMatched (pairs : List IdPair) (view other : View) : Type 0 where
  pub rights : view.rights ≡ other.rights
  pub reads_only : view.reads_only ≡ other.reads_only
  pub changes : AreBags (IsRenamedImage pairs) view.own.changes other.own.changes
  pub own_rows : AreSets (IsRenamedRow pairs) view.own.rows other.own.rows
  pub own_keys : AreSets (IsRenamedKey pairs) view.own.keys other.own.keys
  pub savepoints : AllZip (AreTwinSavepoints pairs) view.savepoints other.savepoints
  pub rows : AreBags (IsRenamedImage pairs) view.rows other.rows
  pub locked : AreSets (IsRenamedImage pairs) view.locked other.locked
  pub locked_keys : AreSets (IsRenamed pairs) view.locked_keys other.locked_keys

pub matched : (pairs : List IdPair) (view other : View) → HasNoIdTwice pairs → IsRisingView view → IsRisingView other → AreTwinViews pairs view other → AreMatched pairs view other
matched pairs view other once rises more t = record {
  rights = t.rights;
  reads_only = t.reads_only;
  changes = rising_bags pairs once view.own.changes other.own.changes rises.changes more.changes t.changes;
  own_rows = t.own_rows;
  own_keys = t.own_keys;
  savepoints = t.savepoints;
  rows = rising_bags pairs once view.rows other.rows rises.rows more.rows t.rows;
  locked = t.locked;
  locked_keys = t.locked_keys;
}

-- ---- views of a sound server

one_at : {A : Type 0} (P : A → Type 0) (xs : List A) (n : ℕ) (d : A) → P d → AllByRecursion P xs → P (slice_index_or xs n d)
one_at P [] n d p all = p
one_at P (x ∷ xs) zero d p all = all.0
one_at P (x ∷ xs) (suc n) d p all = one_at P xs n d p all.1

view_rises : (state : State) (session : ℕ) (table : Option ℕ) → IsSoundState state → IsRisingView (view_of state session table)
view_rises state session None sound = record { changes = (one_at HasSoundChanges state.sessions session disconnected (record { own = sound_none; kept = tt }) sound.sessions).own.rising; rows = tt }
view_rises state session (Some table) sound =
    let mine = session_at state session in
    let start = of_table table state.start.rows in
    let commits = map (of_table table) (commits_seen mine.snapshot state.commits) in
    record {
      changes = (one_at HasSoundChanges state.sessions session disconnected (record { own = sound_none; kept = tt }) sound.sessions).own.rising;
      rows = rising_lay (lay_all start commits) (of_table table mine.own.changes) (rising_lay_all start commits (rising_of_table table state.start.rows (tables_stand state 0 sound).rising));
    }

pub views_rise : ViewsRise
views_rise state session call sound = view_rises state session (table_in (request_of state.start.schema call)) sound
