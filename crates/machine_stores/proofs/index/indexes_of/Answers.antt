use Rattle.std.proofs.Common.{arith}
use Rattle.machine_stores.proofs.Storing.{within_here}
use Rattle.machine_stores.proofs.index.indexes_of.Goals as goal

pub of-requires : goal.of-requires
of-requires c = within_here c.args.number c.args.tables.now c.loop-table.table-index c.table-item.result c.requires (omega arith) c.table-item.is
