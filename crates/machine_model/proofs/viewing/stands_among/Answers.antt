use Rattle.std.proofs.Common.{◌∙◌}
use Rattle.machine_model.proofs.Handing.{found_among}
use Rattle.machine_model.proofs.viewing.stands_among.Goals as goal

pub returns : goal.returns
returns c = c.is_ok.ensures.value ∙ found_among c.args.numbers.now c.args.number c.binary_search.result c.requires c.binary_search.ensures.position
