use Rattle.law_ids.proofs.Starts.{opening_bound, standing_old}
use Rattle.law_ids.proofs.given_laws.openings_pass_rows.Goals as goal

pub returns-clause-passed : goal.returns-clause-passed
returns-clause-passed c = λ start id. standing_old start id

pub returns-clause-bound : goal.returns-clause-bound
returns-clause-bound c = λ start. opening_bound start
