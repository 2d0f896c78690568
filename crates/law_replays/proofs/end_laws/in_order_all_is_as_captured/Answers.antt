use Rattle.law_replays.proofs.End.Whole.{again_as_captured}
use Rattle.law_replays.proofs.end_laws.in_order_all_is_as_captured.Goals as goal

pub returns : goal.returns
returns c = again_as_captured
