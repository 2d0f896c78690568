use Rattle.std.proofs.Common.{sym, ◌∙◌}
use Rattle.call_json.proofs.SpelledTexts.{plain_is}
use Rattle.call_json.proofs.spelled.plain_text.Goals as goal

pub returns-then-are_plain : goal.returns-then-are_plain
returns-then-are_plain c = plain_is c.args.content.now c.in-Ok.text c.in-Ok.ensures.ok (sym c.are_plain.ensures ∙ c.if-are_plain.true)
