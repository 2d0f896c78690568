use Rattle.replay_schedule.proofs.Gates.Telling.{first_is_free, first_open_tells}
use Rattle.replay_schedule.proofs.gate_laws.gate_says_what_is_open.Goals as goal

pub returns-clause-least : goal.returns-clause-least
returns-clause-least c = λ job history gate waiting is. first_open_tells is

pub returns-clause-free : goal.returns-clause-free
returns-clause-free c = λ job history gate waiting is. first_is_free is
