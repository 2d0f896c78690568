use Rattle.replay_walk.proofs.Answers.{no_answer}
use Rattle.replay_walk.proofs.laws.starts_change_nothing.Goals as goal

pub returns : goal.returns
returns c = no_answer
