use Rattle.std.proofs.Common.{inr, arith}
use Rattle.replay_schedule.proofs.Gates.Gates.{answer_follows, open_in_gate, open_room}
use Rattle.replay_schedule.proofs.schedule.Schedule.answer.Goals as goal

pub answer-requires-clause-started : goal.answer-requires-clause-started
answer-requires-clause-started c = let waits = rw (← c.self.view_is) at c.requires in (open_in_gate waits.1 c.args.k waits.2).0

pub answer-requires-clause-open : goal.answer-requires-clause-open
answer-requires-clause-open c = let waits = rw (← c.self.view_is) at c.requires in (open_in_gate waits.1 c.args.k waits.2).1

pub index_mut-requires : goal.index_mut-requires
index_mut-requires c = let waits = rw (← c.self.view_is) at c.requires in omega (arith, (open_room waits.1 c.args.k (inr waits.2)).0, waits.1.waiting_len)

pub invariant_of-self : goal.invariant_of-self
invariant_of-self c = c.self.invariant

pub returns-clause-follows : goal.returns-clause-follows
returns-clause-follows c = rw (← c.self.view_is) (λ history follows waits reply. rw c.answer.ensures (answer_follows follows c.args.k reply waits))
