use Rattle.replay_schedule.proofs.Gates.Telling.{done_tells, pick_tells}
use Rattle.replay_schedule.proofs.gate_laws.gate_says_what_lanes_do.Goals as goal

pub returns-clause-pick : goal.returns-clause-pick
returns-clause-pick c = λ job history gate waiting is. pick_tells is

pub returns-clause-done : goal.returns-clause-done
returns-clause-done c = λ job history gate waiting is. done_tells is
