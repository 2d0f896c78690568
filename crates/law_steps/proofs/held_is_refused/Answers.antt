use Rattle.law_steps.proofs.Held.{held_keys_are_not_inserted, held_keys_are_not_set, held_rows_are_refused, locked_means_held}
use Rattle.law_steps.proofs.held_is_refused.Goals as goal

pub returns-clause-rows : goal.returns-clause-rows
returns-clause-rows c = held_rows_are_refused

pub returns-clause-inserted : goal.returns-clause-inserted
returns-clause-inserted c = held_keys_are_not_inserted

pub returns-clause-set : goal.returns-clause-set
returns-clause-set c = held_keys_are_not_set

pub returns-clause-only : goal.returns-clause-only
returns-clause-only c = locked_means_held
