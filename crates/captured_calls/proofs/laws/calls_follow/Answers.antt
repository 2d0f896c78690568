use Rattle.captured_calls.proofs.Following.{follows, waits}
use Rattle.captured_calls.proofs.laws.calls_follow.Goals as goal

pub returns : goal.returns
returns c = λ calls k call placed place. (follows calls k call placed place, waits calls k call placed place)
