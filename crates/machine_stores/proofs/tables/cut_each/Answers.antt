use Rattle.std.proofs.Common.{arith}
use Rattle.machine_stores.specs.Inside.Tables.{no_versions}
use Rattle.machine_stores.proofs.Storing.{next_cut, next_from, next_left}
use Rattle.machine_stores.proofs.tables.cut_each.Goals as goal

pub cut_above-requires : goal.cut_above-requires
cut_above-requires c = next_from c.args.tables.now c.loop-table.tables c.loop-table.table-index _ no_versions (omega arith) c.loop-table.auto.tables c.loop-table.invariant.left c.args.number c.requires

pub loop-table-preserved : goal.loop-table-preserved
loop-table-preserved c = record {
  done = next_cut c.args.tables.now c.loop-table.tables c.loop-table.table-index _ c.cut_above.new.self (omega arith) c.loop-table.auto.tables c.loop-table.invariant.left c.args.number c.loop-table.invariant.done c.cut_above.ensures.list c.cut_above.ensures.floor;
  left = next_left c.args.tables.now c.loop-table.tables c.loop-table.table-index no_versions c.cut_above.new.self (omega arith) c.loop-table.auto.tables c.loop-table.invariant.left;
}

pub returns : goal.returns
returns c = record { count = c.loop-table.auto.tables; each = λ table h within. c.loop-table.invariant.done table h (omega arith) }
