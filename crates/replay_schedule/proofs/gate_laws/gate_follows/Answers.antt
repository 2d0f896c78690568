use Rattle.replay_schedule.proofs.Gates.Gates.{answer_follows, new_follows, start_follows, start_waits}
use Rattle.replay_schedule.proofs.gate_laws.gate_follows.Goals as goal

pub returns-clause-new : goal.returns-clause-new
returns-clause-new c = new_follows

pub returns-clause-start : goal.returns-clause-start
returns-clause-start c = λ job history gate waiting is. start_follows is

pub returns-clause-waits : goal.returns-clause-waits
returns-clause-waits c = λ job history gate waiting is. start_waits is

pub returns-clause-answer : goal.returns-clause-answer
returns-clause-answer c = λ job history gate waiting is. answer_follows is
