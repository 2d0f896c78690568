use Rattle.http_answers.proofs.Answering.{agree}
use Rattle.http_answers.proofs.laws.one_answer.Goals as goal

pub returns : goal.returns
returns c = agree
