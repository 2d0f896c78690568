use Rattle.http_answers.proofs.Fronts.{short-at, whole-at}
use Rattle.http_answers.proofs.answer.Answer.is_whole.Goals as goal

pub returns-clause-whole : goal.returns-clause-whole
returns-clause-whole c = whole-at c.args.bytes.now c.args.self.now c.requires

pub returns-clause-short : goal.returns-clause-short
returns-clause-short c = short-at c.args.bytes.now c.args.self.now c.requires
