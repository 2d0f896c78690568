use Rattle.replay_schedule.proofs.Gates.Gates.{ready_tells, waiting_tells}
use Rattle.replay_schedule.proofs.gate_laws.gate_says_what_may_start.Goals as goal

pub returns-clause-ready : goal.returns-clause-ready
returns-clause-ready c = λ job history gate waiting is. ready_tells is

pub returns-clause-waiting : goal.returns-clause-waiting
returns-clause-waiting c = λ job history gate waiting is. waiting_tells is
