use Rattle.law_histories.proofs.Extended.{answer_legal, legal_answer, legal_start, start_legal}
use Rattle.law_histories.proofs.laws.legal_histories_grow.Goals as goal

pub returns-clause-start : goal.returns-clause-start
returns-clause-start g c = λ calls history k pause legal. (start_legal calls g.R.Rules.required g.R.Rules.paused history k pause, legal_start calls g.R.Rules.required g.R.Rules.paused history k pause legal)

pub returns-clause-answer : goal.returns-clause-answer
returns-clause-answer g c = λ calls history k reply legal. (answer_legal calls g.R.Rules.required g.R.Rules.paused history k reply, λ may. legal_answer calls g.R.Rules.required g.R.Rules.paused history k reply legal may.0 may.1)
