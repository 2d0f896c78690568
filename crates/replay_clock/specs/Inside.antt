-- The gap of one call.
use Rattle.std.specs.Prelude.{ℕ, ◌-◌, ◌==◌, if◌then◌else◌}
use Rattle.desk_values.specs.declared.capture.Captured.{Captured}
use Rattle.replay_clock.specs.declared.gap.Gap.{Gap}

-- the time before a call, where the call of its session before it ended at this moment
abbrev pub gap_after : Captured → ℕ → Gap
gap_after call ended = record { micros = if call.place == 0 then call.began else (call.began - ended); first = call.place == 0 }
