-- Ids that stand for themselves in a map of ids.
use Rattle.std.specs.Prelude.{List}
use Rattle.std.specs.List.{AllByRecursion}
use Rattle.desk_values.specs.declared.value.Value.{Value}
use Rattle.desk_values.specs.declared.value.Image.{Image}
use Rattle.desk_values.specs.declared.call.Reply.{Reply}
use Rattle.server_words.specs.declared.session.Savepoint.{Savepoint}
use Rattle.server_words.specs.declared.session.Session.{Session}
use Rattle.server_words.specs.State.{State}
use Rattle.replay_history.specs.Capture.{IsGivenBy}
use Rattle.id_pairs.specs.Pairs.{IdPair}
use Rattle.id_pairs.specs.Renaming.{IsRenamed}
use Rattle.law_server.specs.Rows.Images.{IsRenamedImage}

-- each id of the image stands for itself
abbrev pub IsOwn : List IdPair → Image → Type 0
IsOwn pairs image = IsRenamedImage pairs image image

abbrev pub AreOwn : List IdPair → List Image → Type 0
AreOwn pairs images = AllByRecursion (IsOwn pairs) images

abbrev pub KeepsOwn : List IdPair → Savepoint → Type 0
KeepsOwn pairs savepoint = AreOwn pairs savepoint.own.changes

-- each id that the reply gives does
abbrev pub GivesOwn : List IdPair → Reply → Type 0
GivesOwn pairs reply = (v : Value) → IsGivenBy v reply → IsRenamed pairs v v

-- each id that the state has in rows does: in those of the start, in committed ones, in those of sessions and in those that their
-- savepoints keep
pub record HasOwnIds (pairs : List IdPair) (state : State) : Type 0 where
  pub start : AreOwn pairs state.start.rows
  pub commits : AllByRecursion (AreOwn pairs) state.commits
  pub sessions : AllByRecursion (λ (s : Session). AreOwn pairs s.own.changes) state.sessions
  pub kept : AllByRecursion (λ (s : Session). AllByRecursion (KeepsOwn pairs) s.savepoints) state.sessions
