use Rattle.server_words.specs.State.{opening}
use Rattle.server_words.specs.Step.{run}
use Rattle.law_keys.proofs.Runs.{reached, savepoints_less}
use Rattle.law_keys.proofs.savepoints_hold_no_more.Goals as goal

pub returns : goal.returns
returns c = λ start calls is. savepoints_less (run (opening start) calls) (reached start calls is)
