use Rattle.law_replays.proofs.End.Whole.{twins_same}
use Rattle.law_replays.proofs.end_laws.twin_calls_are_same.Goals as goal

pub returns : goal.returns
returns c = twins_same
