use Rattle.law_steps.proofs.Reading.{marked_sessions_read, only_marked_sessions_read, readers_are_answered_the_same, readers_are_left, readers_see_the_same, snapshots_are_within}
use Rattle.law_steps.proofs.reads_stay.Goals as goal

pub returns-clause-begins : goal.returns-clause-begins
returns-clause-begins c = marked_sessions_read

pub returns-clause-only : goal.returns-clause-only
returns-clause-only c = only_marked_sessions_read

pub returns-clause-within : goal.returns-clause-within
returns-clause-within c = snapshots_are_within

pub returns-clause-session : goal.returns-clause-session
returns-clause-session c = readers_are_left

pub returns-clause-rows : goal.returns-clause-rows
returns-clause-rows c = readers_see_the_same

pub returns-clause-replies : goal.returns-clause-replies
returns-clause-replies c = readers_are_answered_the_same
