use Rattle.std.proofs.Common.{◌∙◌}
use Rattle.server_words.proofs.Repeating.{too_few}
use Rattle.found_rows.proofs.repeats.same_neighbours.Goals as goal

pub returns : goal.returns
returns c = too_few c.args.level c.loop-rest.rest.now c.in_default.len_below ∙ c.loop-rest.invariant
