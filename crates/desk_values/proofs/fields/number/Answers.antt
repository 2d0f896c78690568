use Rattle.std.proofs.Common.{sym, ◌∙◌}
use Rattle.desk_values.proofs.Numbers.{digits_are, loose_is_none}
use Rattle.desk_values.proofs.fields.number.Goals as goal

pub returns-then-is_loose : goal.returns-then-is_loose
returns-then-is_loose c = sym (loose_is_none c.args.bytes.now (sym c.is_loose.ensures ∙ c.if-is_loose.true))

pub returns : goal.returns
returns c = c.digits.ensures ∙ digits_are c.args.bytes.now (sym c.is_loose.ensures ∙ c.if-is_loose.false)
