-- How the fields of a desk are seen.
use Rattle.replay_job.specs.Runs.{Stage}
use Rattle.replay_core.specs.declared.desk.Desk.TheInside.{Inside}
use Rattle.replay_core.specs.Desk.{DeskView}

abbrev pub stage_of : Inside → Stage
stage_of a = record { state = a.engine.state; pairs = a.map.pairs }

abbrev pub view_of : Inside → DeskView
view_of a = record { job = a.schedule.job; history = a.history.items; stage = stage_of a; stopped = a.schedule.stopped }
