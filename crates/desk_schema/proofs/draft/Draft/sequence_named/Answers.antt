use Rattle.std.proofs.Common.{arith}
use Rattle.std.proofs.lemmas.Grind.{common_steps}
use Rattle.desk_schema.proofs.Sequences.{found_some, found_none}
use Rattle.desk_schema.proofs.draft.Draft.sequence_named.Goals as goal

pub returns-clause-some : goal.returns-clause-some
returns-clause-some c = found_some c.args.self.now.start.schema.sequences c.args.name.now c.place_in.result (grind (arith, common_steps))

pub returns-clause-none : goal.returns-clause-none
returns-clause-none c = found_none c.args.self.now.start.schema.sequences c.args.name.now c.place_in.result (grind (arith, common_steps))
