use Rattle.std.proofs.Common.{◌≡◌, [], vec_len}
use Rattle.machine_stores.specs.Index.{AreIndexes}
use Rattle.machine_stores.proofs.index.indexes_of.Given as goal

abbrev pub invariant-loop-table : goal.invariant-loop-table
invariant-loop-table l = record {
  count : vec_len l.indexes ≡ l.table-index;
  are : AreIndexes l.indexes.items l.tables l.number [];
}
