-- What holds of every state that the server comes to, so that each reply has a good shape.
use Rattle.std.specs.Prelude.{◌≡◌, true, List, length}
use Rattle.std.specs.List.{AllByRecursion}
use Rattle.desk_values.specs.Limits.{session_limit}
use Rattle.desk_values.specs.declared.value.Image.{Image}
use Rattle.desk_values.specs.Good.{IsShapedImage}
use Rattle.desk_schema.specs.Sound.{IsSoundStart}
use Rattle.server_words.specs.declared.session.Session.{Session}
use Rattle.server_words.specs.declared.session.Savepoint.{Savepoint}
use Rattle.server_words.specs.Rows.{IsRising, is_there}
use Rattle.server_words.specs.State.{State}

-- changes that a reply may tell: in tables that there may be, with at least one value where not gone, ascending by row
pub record AreSound (changes : List Image) : Type 0 where
  pub shaped : AllByRecursion IsShapedImage changes
  pub rising : IsRising changes

-- rows of tables: none is gone, and they ascend
pub record AreStanding (rows : List Image) : Type 0 where
  pub there : AllByRecursion (λ (image : Image). is_there image ≡ true) rows
  pub rising : IsRising rows

abbrev pub KeepsSound : Savepoint → Type 0
KeepsSound savepoint = AreSound savepoint.own.changes

-- its own changes, and those that its savepoints keep
pub record HasSoundChanges (session : Session) : Type 0 where
  pub own : AreSound session.own.changes
  pub kept : AllByRecursion KeepsSound session.savepoints

pub record IsSoundState (state : State) : Type 0 where
  pub start : IsSoundStart state.start
  pub commits : AllByRecursion AreSound state.commits
  pub next_values : length state.next_values ≡ length state.start.schema.sequences
  pub count : length state.sessions ≡ session_limit
  pub sessions : AllByRecursion HasSoundChanges state.sessions
