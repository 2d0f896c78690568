use Rattle.std.proofs.Common.{sym, ◌∙◌}
use Rattle.hold_index.proofs.Telling.{has_row}
use Rattle.call_deeds.proofs.holding.has_row.Goals as goal

pub returns-then-is_kept : goal.returns-then-is_kept
returns-then-is_kept c = c.tells_row.ensures ∙ sym (has_row c.args.holds.now c.args.session c.args.row c.args.held.now c.requires (sym c.is_kept.ensures ∙ c.if-is_kept.true))
