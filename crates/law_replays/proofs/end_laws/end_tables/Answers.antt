use Rattle.law_replays.proofs.End.Classes.{one_carried}
use Rattle.law_replays.proofs.End.Whole.{before_carried, so_far_carried, tables_carried}
use Rattle.law_replays.proofs.end_laws.end_tables.Goals as goal

pub returns-clause-carried : goal.returns-clause-carried
returns-clause-carried c = tables_carried

pub returns-clause-so_far : goal.returns-clause-so_far
returns-clause-so_far c = so_far_carried

pub returns-clause-before : goal.returns-clause-before
returns-clause-before c = before_carried

pub returns-clause-one : goal.returns-clause-one
returns-clause-one c = one_carried
