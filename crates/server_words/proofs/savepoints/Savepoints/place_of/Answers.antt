use Rattle.server_words.specs.State.{nothing}
use Rattle.server_words.proofs.Marks.{named_found, place_within}
use Rattle.server_words.proofs.savepoints.Savepoints.place_of.Goals as goal

pub returns-clause-some : goal.returns-clause-some
returns-clause-some c = named_found c.args.name.now c.args.self.now c.first_of.result c.first_of.ensures

pub returns-clause-within : goal.returns-clause-within
returns-clause-within c = place_within c.args.name.now nothing c.args.self.now c.first_of.result c.first_of.ensures
