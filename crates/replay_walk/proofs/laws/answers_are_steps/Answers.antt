use Rattle.replay_walk.proofs.Answers.{next_answer}
use Rattle.replay_walk.proofs.laws.answers_are_steps.Goals as goal

pub returns : goal.returns
returns c = next_answer
