use Rattle.server_words.specs.State.{opening}
use Rattle.server_words.specs.Step.{run}
use Rattle.law_keys.proofs.Runs.{committed_differ, reached, seen_differ}
use Rattle.law_keys.proofs.There.{keys_there}
use Rattle.law_keys.proofs.no_key_stands_twice.Goals as goal

pub returns-clause-committed : goal.returns-clause-committed
returns-clause-committed c = λ start calls is. committed_differ (run (opening start) calls) (reached start calls is)

pub returns-clause-seen : goal.returns-clause-seen
returns-clause-seen c = λ start calls is. seen_differ (run (opening start) calls) (reached start calls is)

pub returns-clause-there : goal.returns-clause-there
returns-clause-there c = λ start calls is. keys_there start calls is
