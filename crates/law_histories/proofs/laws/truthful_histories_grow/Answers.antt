use Rattle.law_histories.proofs.Truth.{answer_truthful, start_truthful, truthful_answer, truthful_start}
use Rattle.law_histories.proofs.laws.truthful_histories_grow.Goals as goal

pub returns-clause-start : goal.returns-clause-start
returns-clause-start g c = λ first last history k pause. (start_truthful g.M.Machine.executes first last history k pause, truthful_start g.M.Machine.executes first last history k pause)

pub returns-clause-answer : goal.returns-clause-answer
returns-clause-answer g c = λ first last history k reply. (answer_truthful g.M.Machine.executes first last history k reply, λ is. truthful_answer g.M.Machine.executes first is.0 last history k reply is.1 is.2)
