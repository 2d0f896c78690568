use Rattle.std.proofs.Common.{sym, ◌∙◌}
use Rattle.server_words.proofs.savepoints.Savepoints.set.Goals as goal

pub set_over-requires : goal.set_over-requires
set_over-requires c = sym c.in-Some.is ∙ c.place_of.ensures.place

pub set_new-requires : goal.set_new-requires
set_new-requires c = sym c.in-None.is ∙ c.place_of.ensures.place
