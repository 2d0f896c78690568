-- The lines of a journal so far, as contracts see them.
use Rattle.std.specs.Prelude.{List}
use Rattle.desk_values.specs.declared.capture.Event.{Event}
use Rattle.replay_report.specs.declared.journal.Stage.{Stage}

pub record JournalView : Type 0 where
  pub stage : Stage
  pub events : List Event
