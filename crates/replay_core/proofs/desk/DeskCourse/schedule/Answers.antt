use Rattle.replay_core.proofs.desk.DeskCourse.schedule.Goals as goal

pub returns-clause-follows : goal.returns-clause-follows
returns-clause-follows c = rw (← c.self.view_is) c.self.invariant.follows
