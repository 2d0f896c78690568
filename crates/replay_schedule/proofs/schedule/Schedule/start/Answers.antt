use Rattle.std.proofs.Common.{inl, arith}
use Rattle.replay_schedule.proofs.Gates.Gates.{open_room, ready_tells, start_follows}
use Rattle.replay_schedule.proofs.schedule.Schedule.start.Goals as goal

pub pause_before-pause-requires-clause-replayable : goal.pause_before-pause-requires-clause-replayable
pause_before-pause-requires-clause-replayable c = c.requires.1.replayable

pub pause_before-pause-requires-clause-stamp : goal.pause_before-pause-requires-clause-stamp
pause_before-pause-requires-clause-stamp c = (open_room c.requires.1 c.args.k (inl c.requires.2)).0

pub start-requires : goal.start-requires
start-requires c = let may = rw (← c.self.view_is) at c.requires in (ready_tells may.1 c.args.k).1 may.2

pub index_mut-requires : goal.index_mut-requires
index_mut-requires c = let may = rw (← c.self.view_is) at c.requires in omega (arith, (open_room may.1 c.args.k (inl may.2)).0, may.1.waiting_len)

pub invariant_of-self : goal.invariant_of-self
invariant_of-self c = c.self.invariant

pub returns-clause-follows : goal.returns-clause-follows
returns-clause-follows c = rw (← c.self.view_is) (λ history follows may. rw c.start.ensures.noted (start_follows follows c.args.k c.pause_before-pause.result may (rw (← c.self.view_is) at c.pause_before-pause.ensures)))

pub returns-clause-pause : goal.returns-clause-pause
returns-clause-pause c = c.pause_before-pause.ensures
