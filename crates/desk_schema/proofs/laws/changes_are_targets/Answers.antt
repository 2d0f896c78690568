use Rattle.desk_schema.proofs.Targets.{keeps, targets}
use Rattle.desk_schema.proofs.laws.changes_are_targets.Goals as goal

pub returns-clause-target : goal.returns-clause-target
returns-clause-target c = targets

pub returns-clause-start : goal.returns-clause-start
returns-clause-start c = keeps
