use Rattle.replay_schedule.proofs.Gates.Telling.{done_tells}
use Rattle.replay_schedule.proofs.Schedules.{iff_then}
use Rattle.replay_schedule.proofs.schedule.Schedule.done.Goals as goal

pub returns : goal.returns
returns c = rw (← c.self.view_is) (λ history follows. iff_then c.done.ensures (done_tells follows c.args.lane.now))
