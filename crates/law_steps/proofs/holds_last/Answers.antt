use Rattle.law_steps.proofs.Coming.{no_other_key_is_held, no_other_row_is_held}
use Rattle.law_steps.proofs.Holding.{ended_sessions_hold_nothing, holds_stay, inserted_rows_are_held, moved_keys_are_held, taken_rows_are_held}
use Rattle.law_steps.proofs.holds_last.Goals as goal

pub returns-clause-taken : goal.returns-clause-taken
returns-clause-taken c = taken_rows_are_held

pub returns-clause-inserted : goal.returns-clause-inserted
returns-clause-inserted c = inserted_rows_are_held

pub returns-clause-keys : goal.returns-clause-keys
returns-clause-keys c = moved_keys_are_held

pub returns-clause-rows_only : goal.returns-clause-rows_only
returns-clause-rows_only c = no_other_row_is_held

pub returns-clause-keys_only : goal.returns-clause-keys_only
returns-clause-keys_only c = no_other_key_is_held

pub returns-clause-stay : goal.returns-clause-stay
returns-clause-stay c = holds_stay

pub returns-clause-ended : goal.returns-clause-ended
returns-clause-ended c = ended_sessions_hold_nothing
