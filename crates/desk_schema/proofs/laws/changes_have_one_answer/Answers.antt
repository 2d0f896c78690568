use Rattle.desk_schema.proofs.Changing.{never_both, one_bad, one_last}
use Rattle.desk_schema.proofs.laws.changes_have_one_answer.Goals as goal

pub returns-clause-start : goal.returns-clause-start
returns-clause-start c = λ start a b records. one_last start records a b

pub returns-clause-bad : goal.returns-clause-bad
returns-clause-bad c = one_bad

pub returns-clause-apart : goal.returns-clause-apart
returns-clause-apart c = λ start last records n. never_both start records last n
