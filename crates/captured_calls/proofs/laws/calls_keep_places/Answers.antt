use Rattle.captured_calls.proofs.Places.{place_is}
use Rattle.captured_calls.proofs.laws.calls_keep_places.Goals as goal

pub returns : goal.returns
returns c = λ lists are has. place_is lists are has
