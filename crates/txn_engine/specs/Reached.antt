-- States that a server comes to.
use Rattle.std.specs.Prelude.{◌≡◌, ℕ, List}
use Rattle.desk_values.specs.declared.call.Call.{Call}
use Rattle.desk_schema.specs.File.{IsStart}
use Rattle.desk_schema.specs.Start.{StartView}
use Rattle.server_words.specs.State.{State, opening}
use Rattle.server_words.specs.Step.{run}

-- some calls lead to it, from a start that keeps the rules
abbrev pub IsReached : State → Type 0
IsReached state = (start : StartView) × (calls : List (ℕ × Call)) × IsStart start × (state ≡ run (opening start) calls)
