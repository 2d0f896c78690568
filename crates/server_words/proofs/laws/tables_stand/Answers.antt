use Rattle.server_words.proofs.SoundSteps as sound
use Rattle.server_words.proofs.laws.tables_stand.Goals as goal

pub returns : goal.returns
returns c = sound.tables_stand
