use Rattle.replay_schedule.proofs.Gates.Telling.{first_is_free, first_open_tells}
use Rattle.replay_schedule.proofs.schedule.Schedule.first_open.Goals as goal

pub returns-clause-least : goal.returns-clause-least
returns-clause-least c = rw (← c.self.view_is) (λ history follows. first_open_tells follows c.first_open.result c.first_open.ensures.least)

pub returns-clause-never_stuck : goal.returns-clause-never_stuck
returns-clause-never_stuck c = rw (← c.self.view_is) (λ history follows. first_is_free follows c.first_open.result c.first_open.ensures.least c.first_open.ensures.never_stuck)
