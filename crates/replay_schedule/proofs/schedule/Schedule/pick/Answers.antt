use Rattle.replay_schedule.proofs.Gates.Telling.{pick_tells}
use Rattle.replay_schedule.proofs.schedule.Schedule.pick.Goals as goal

pub returns : goal.returns
returns c = rw (← c.self.view_is) (λ history follows. pick_tells follows c.args.lane.now c.pick.result c.pick.ensures)
