use Rattle.law_ids.proofs.Known.{given_after, known_after}
use Rattle.law_ids.proofs.given_laws.given_where_known.Goals as goal

pub returns : goal.returns
returns c = λ start calls last value run. (known_after start calls last value run, given_after start calls last value run)
