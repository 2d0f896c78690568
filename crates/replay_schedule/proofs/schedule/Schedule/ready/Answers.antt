use Rattle.replay_schedule.proofs.Gates.Gates.{ready_tells}
use Rattle.replay_schedule.proofs.Schedules.{iff_then}
use Rattle.replay_schedule.proofs.schedule.Schedule.ready.Goals as goal

pub returns : goal.returns
returns c = rw (← c.self.view_is) (λ history follows. iff_then c.ready.ensures (ready_tells follows c.args.k))
