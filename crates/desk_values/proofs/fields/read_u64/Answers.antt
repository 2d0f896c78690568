use Rattle.desk_values.proofs.Numbers.{numbers}
use Rattle.desk_values.proofs.Readers.{finds_some, finds_only}
use Rattle.desk_values.proofs.fields.read_u64.Goals as goal

pub returns-clause-some : goal.returns-clause-some
returns-clause-some c = finds_some numbers c.args.bytes.now c.number.result c.number.ensures

pub returns-clause-only : goal.returns-clause-only
returns-clause-only c = finds_only numbers c.args.bytes.now c.number.result c.number.ensures
