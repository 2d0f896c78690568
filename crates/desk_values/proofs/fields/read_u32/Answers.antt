use Rattle.std.proofs.Common.{lit≤, ◌^◌}
use Rattle.desk_values.proofs.Numbers.{numbers_below}
use Rattle.desk_values.proofs.Readers.{finds_some, finds_only}
use Rattle.desk_values.proofs.fields.read_u32.Goals as goal

pub returns-clause-some : goal.returns-clause-some
returns-clause-some c = finds_some (numbers_below (2 ^ 32) (lit≤ tt)) c.args.bytes.now c.small_number.result c.small_number.ensures

pub returns-clause-only : goal.returns-clause-only
returns-clause-only c = finds_only (numbers_below (2 ^ 32) (lit≤ tt)) c.args.bytes.now c.small_number.result c.small_number.ensures
