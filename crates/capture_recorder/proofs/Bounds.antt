-- What the server gives out next is far from the end of its range.
use Rattle.std.proofs.Common.{◌+◌, ◌^◌, List, length}
use Rattle.desk_values.specs.declared.capture.Captured.{Captured}
use Rattle.desk_schema.specs.File.{IsStart}
use Rattle.desk_schema.specs.Start.{StartView}
use Rattle.desk_schema.proofs.Files.{sound_start}
use Rattle.replay_history.specs.Capture.{IsRun}
use Rattle.law_ids.specs.Counters.{AreAtMost}
use Rattle.law_ids.proofs.Runs.{run_bound}
use Rattle.law_ids.proofs.Starts.{opening_bound}
use Rattle.server_words.specs.State.{State, opening}
use Rattle.server_words.specs.Step.{Gives}

pub low : (start : StartView) (calls : List Captured) (last : State) → IsStart start → IsRun Gives (opening start) calls last → AreAtMost (2 ^ 39 + length calls) last
low start calls last is run = run_bound (opening start) last calls (2 ^ 39) run (opening_bound start (sound_start start is))
