-- What the needs of calls are seen as.
use Rattle.std.specs.Prelude.{List}
use Rattle.object_depends.specs.declared.fact.Fact.{Fact}
use Rattle.replay_history.specs.declared.mode.Mode.{Mode}

-- the calls by stamp, and the mode
pub record NeedsView : Type 0 where
  pub facts : List Fact
  pub mode : Mode
