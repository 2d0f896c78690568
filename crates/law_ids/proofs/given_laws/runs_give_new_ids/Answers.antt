use Rattle.law_ids.proofs.Runs.{run_bound, run_fresh, run_kept, run_once, run_passed, run_start}
use Rattle.law_ids.proofs.given_laws.runs_give_new_ids.Goals as goal

pub returns-clause-fresh : goal.returns-clause-fresh
returns-clause-fresh c = λ first last calls k call id. run_fresh first last calls k call id

pub returns-clause-passed : goal.returns-clause-passed
returns-clause-passed c = λ first last calls k call id. run_passed first last calls k call id

pub returns-clause-once : goal.returns-clause-once
returns-clause-once c = λ first last calls j k call other id. run_once first last calls j k call other id

pub returns-clause-kept : goal.returns-clause-kept
returns-clause-kept c = λ first last calls id. run_kept first last calls id

pub returns-clause-bound : goal.returns-clause-bound
returns-clause-bound c = λ first last calls bound. run_bound first last calls bound

pub returns-clause-start : goal.returns-clause-start
returns-clause-start c = λ first last calls. run_start first last calls
