use Rattle.captured_calls.proofs.Sound.{known_sound}
use Rattle.captured_calls.proofs.laws.known_facts_are_sound.Goals as goal

pub returns : goal.returns
returns c = known_sound
