use Rattle.server_words.specs.State.{opening}
use Rattle.server_words.specs.Step.{run}
use Rattle.law_keys.proofs.Runs.{keys_alone, reached, rows_alone}
use Rattle.law_keys.proofs.nothing_is_held_twice.Goals as goal

pub returns-clause-rows : goal.returns-clause-rows
returns-clause-rows c = λ start calls is. rows_alone (run (opening start) calls) (reached start calls is)

pub returns-clause-keys : goal.returns-clause-keys
returns-clause-keys c = λ start calls is. keys_alone (run (opening start) calls) (reached start calls is)
