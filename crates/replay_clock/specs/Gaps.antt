-- The times before the calls of a capture.
use Rattle.std.specs.Prelude.{◌==◌, List, map}
use Rattle.desk_values.specs.declared.capture.Captured.{Captured}
use Rattle.replay_history.specs.Gap.{gap_of}
use Rattle.replay_clock.specs.declared.gap.Gap.{Gap}

-- the time before a call in these calls, and whether it is its session's first
abbrev pub gap_before : List Captured → Captured → Gap
gap_before calls call = record { micros = gap_of calls call; first = call.place == 0 }

-- by stamp the times before the calls
abbrev pub gaps_in : List Captured → List Gap
gaps_in calls = map (gap_before calls) calls
