use Rattle.replay_schedule.proofs.Gates.Gates.{open_room}
use Rattle.replay_schedule.proofs.gate_laws.open_calls_have_room.Goals as goal

pub returns : goal.returns
returns c = λ job history gate waiting is. open_room is
