use Rattle.server_words.proofs.Keeping.{kept_at_one, kept_but_empty}
use Rattle.server_words.proofs.laws.rows_keep_values.Goals as goal

pub returns-clause-level_one : goal.returns-clause-level_one
returns-clause-level_one c = kept_at_one

pub returns-clause-others : goal.returns-clause-others
returns-clause-others c = kept_but_empty
