use Rattle.sql_eval.proofs.Quotients.{rounds_toward_zero, rounds_down}
use Rattle.sql_eval.proofs.laws.quotients_round.Goals as goal

pub returns : goal.returns
returns c = record { toward_zero = rounds_toward_zero; down = rounds_down }
