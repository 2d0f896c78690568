use Rattle.desk_values.proofs.Numbers.{integers}
use Rattle.desk_values.proofs.Readers.{finds_some, finds_only}
use Rattle.desk_values.proofs.fields.read_i64.Goals as goal

pub returns-clause-some : goal.returns-clause-some
returns-clause-some c = finds_some integers c.args.bytes.now c.integer.result c.integer.ensures

pub returns-clause-only : goal.returns-clause-only
returns-clause-only c = finds_only integers c.args.bytes.now c.integer.result c.integer.ensures
