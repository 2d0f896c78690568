use Rattle.std.proofs.Common.{arith}
use Rattle.machine_stores.specs.Inside.Tables.{no_versions}
use Rattle.machine_stores.proofs.Storing.{next_forgot, next_from, next_left}
use Rattle.machine_stores.proofs.tables.forget_each.Goals as goal

pub forget_below-requires : goal.forget_below-requires
forget_below-requires c = next_from c.args.tables.now c.loop-table.tables c.loop-table.table-index _ no_versions (omega arith) c.loop-table.auto.tables c.loop-table.invariant.left c.args.number c.requires

pub loop-table-preserved : goal.loop-table-preserved
loop-table-preserved c = record {
  done = next_forgot c.args.tables.now c.loop-table.tables c.loop-table.table-index _ c.forget_below.new.self (omega arith) c.loop-table.auto.tables c.loop-table.invariant.left c.args.number c.loop-table.invariant.done c.forget_below.ensures.reads c.forget_below.ensures.fewer c.forget_below.ensures.floor;
  left = next_left c.args.tables.now c.loop-table.tables c.loop-table.table-index no_versions c.forget_below.new.self (omega arith) c.loop-table.auto.tables c.loop-table.invariant.left;
}

pub returns : goal.returns
returns c = record { count = c.loop-table.auto.tables; each = λ table h within. c.loop-table.invariant.done table h (omega arith) }
