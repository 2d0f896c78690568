use Rattle.std.proofs.Common.{arith}
use Rattle.desk_values.proofs.ValueOrder.{at_the_end}
use Rattle.desk_values.proofs.sorting.value_by_value.Goals as goal

pub returns : goal.returns
returns c = grind (arith, at_the_end c.loop-i.i c.args.a.now c.args.b.now, c.cmp.ensures, c.loop-i.invariant, c.loop-i-test.false, c.min-shared.ensures)
