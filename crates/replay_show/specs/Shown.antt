-- What is shown: a legal capture, and what the files of a run of it say.
use Rattle.std.specs.Prelude.{◌≡◌, ℕ, List}
use Rattle.desk_values.specs.declared.capture.Captured.{Captured}
use Rattle.desk_schema.specs.Start.{StartView}
use Rattle.replay_history.specs.Gap.{IsCallAt}
use Rattle.object_depends.specs.declared.fact.Fact.{Fact}
use Rattle.run_files.specs.Fitting.{RunView, seen as run_seen}
use Rattle.replay_show.specs.declared.shown.Shown.{Shown}

pub record ShownView : Type 0 where
  pub start : StartView
  -- by stamp, and what is known of each
  pub calls : List Captured
  pub facts : List Fact
  pub run : RunView

abbrev pub seen : Shown → ShownView
seen shown = record { start = shown.start; calls = shown.calls.items; facts = shown.facts; run = run_seen shown.run }

-- each call stands at its stamp, as those of a legal capture do
abbrev pub HaveStamps : List Captured → Type 0
HaveStamps calls = (k : ℕ) (call : Captured) → IsCallAt calls k call → call.stamp ≡ k
