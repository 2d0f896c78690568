use Rattle.law_ids.proofs.Steps.{step_bound, step_fresh, step_gave, step_kept, step_next, step_passed, step_start}
use Rattle.law_ids.proofs.given_laws.steps_give_next.Goals as goal

pub returns-clause-next : goal.returns-clause-next
returns-clause-next c = λ old new session call reply is. step_next old new session call reply is

pub returns-clause-fresh : goal.returns-clause-fresh
returns-clause-fresh c = λ old new session call reply id is. step_fresh old new session call reply is id

pub returns-clause-passed : goal.returns-clause-passed
returns-clause-passed c = λ old new session call reply id is. step_passed old new session call reply is id

pub returns-clause-kept : goal.returns-clause-kept
returns-clause-kept c = λ old new session call reply id is. step_kept old new session call reply is id

pub returns-clause-gave : goal.returns-clause-gave
returns-clause-gave c = λ old new session call reply id is. step_gave old new session call reply is id

pub returns-clause-bound : goal.returns-clause-bound
returns-clause-bound c = λ old new session call reply bound is. step_bound old new session call reply is bound

pub returns-clause-start : goal.returns-clause-start
returns-clause-start c = λ old new session call reply is. step_start old new session call reply is
