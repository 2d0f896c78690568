-- What holds of the fields of a schedule. It need not be believed.
use Rattle.std.specs.Prelude.{◌≡◌}
use Rattle.replay_clock.specs.Gaps.{gaps_in}
use Rattle.replay_schedule.specs.declared.schedule.Schedule.TheInside.{Inside}

-- it has the time before each call
abbrev pub IsSchedule : Inside → Type 0
IsSchedule a = a.gaps ≡ gaps_in a.job.calls.items
