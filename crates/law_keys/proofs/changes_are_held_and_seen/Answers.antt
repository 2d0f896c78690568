use Rattle.server_words.specs.State.{opening}
use Rattle.server_words.specs.Step.{run}
use Rattle.law_keys.proofs.Runs.{holds_changes, reached, readers, readers_see, sees_tables}
use Rattle.law_keys.proofs.There.{keys_held}
use Rattle.law_keys.proofs.changes_are_held_and_seen.Goals as goal

pub returns-clause-held : goal.returns-clause-held
returns-clause-held c = λ start calls is. holds_changes (run (opening start) calls) (reached start calls is)

pub returns-clause-given : goal.returns-clause-given
returns-clause-given c = λ start calls is. keys_held start calls is

pub returns-clause-readers : goal.returns-clause-readers
returns-clause-readers c = λ start calls is. readers (run (opening start) calls) (reached start calls is)

pub returns-clause-seen : goal.returns-clause-seen
returns-clause-seen c = λ start calls is. sees_tables (run (opening start) calls) (reached start calls is)

pub returns-clause-moments : goal.returns-clause-moments
returns-clause-moments c = λ start calls is. readers_see (run (opening start) calls) (reached start calls is)
