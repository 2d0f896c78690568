use Rattle.std.proofs.Common.{sym, ◌∙◌}
use Rattle.call_deeds.proofs.Held.{not_held}
use Rattle.call_deeds.proofs.holding.has_told_key.Goals as goal

pub returns : goal.returns
returns c = sym (not_held c.args.holds.now c.args.session c.args.table c.args.key.now c.args.held.now c.requires.has c.requires.kept (sym c.tells_key.ensures ∙ c.if-tells_key.false))
