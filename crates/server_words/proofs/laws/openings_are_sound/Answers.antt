use Rattle.server_words.proofs.SoundSteps.{opening_sound}
use Rattle.server_words.proofs.laws.openings_are_sound.Goals as goal

pub returns : goal.returns
returns c = opening_sound
