use Rattle.server_words.proofs.SoundSteps.{opened_run_shaped}
use Rattle.server_words.proofs.laws.runs_have_shape.Goals as goal

pub returns : goal.returns
returns c = opened_run_shaped
