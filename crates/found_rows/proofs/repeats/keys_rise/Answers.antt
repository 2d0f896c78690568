use Rattle.std.proofs.Common.{◌∙◌}
use Rattle.server_words.proofs.Repeating.{few_rise}
use Rattle.found_rows.proofs.repeats.keys_rise.Goals as goal

pub returns : goal.returns
returns c = few_rise c.args.level c.loop-rest.rest.now c.in_default.len_below ∙ c.loop-rest.invariant
