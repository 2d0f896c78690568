use Rattle.desk_values.proofs.ImageTests.{rows_ascend_is}
use Rattle.desk_values.proofs.well_formed.rows_ascend.Goals as goal

pub returns-clause-fact : goal.returns-clause-fact
returns-clause-fact c = rw c.is_ascending.ensures (rows_ascend_is c.args.images.now)
