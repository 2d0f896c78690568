-- The lines of a session file so far, as contracts see them.
use Rattle.std.specs.Prelude.{ℕ, List}
use Rattle.desk_values.specs.declared.capture.Captured.{Captured}
use Rattle.capture_format.specs.declared.session.Stage.{Stage}

pub record SessionView : Type 0 where
  pub session : ℕ
  -- of the start file beside it
  pub version : ℕ
  pub stage : Stage
  -- the least stamp of the next call
  pub least : ℕ
  pub calls : List Captured
