use Rattle.server_words.proofs.SoundSteps.{step_sound}
use Rattle.server_words.proofs.laws.steps_stay_sound.Goals as goal

pub returns : goal.returns
returns c = step_sound
