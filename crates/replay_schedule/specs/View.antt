-- How the fields of a schedule are seen.
use Rattle.replay_job.specs.Job.{seen}
use Rattle.replay_schedule.specs.declared.schedule.Schedule.TheInside.{Inside}
use Rattle.replay_schedule.specs.Schedule.{ScheduleView}

abbrev pub view_of : Inside → ScheduleView
view_of a = record { job = seen a.job; gate = a.gate; waiting = a.waiting.items; stopped = a.stopped }
