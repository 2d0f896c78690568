use Rattle.server_words.proofs.SoundSteps.{reply_shaped}
use Rattle.server_words.proofs.laws.replies_have_shape.Goals as goal

pub returns : goal.returns
returns c = reply_shaped
