use Rattle.std.proofs.Common.{drop}
use Rattle.sql_eval.specs.Totals.{looked_at}
use Rattle.machine_stores.specs.Index.{HasRows}
use Rattle.machine_stores.specs.Tables.{told_at}
use Rattle.machine_stores.proofs.index.KeyIndex.of.Given as goal

abbrev pub invariant-loop-image : goal.invariant-loop-image
invariant-loop-image l = HasRows l.index (told_at l.versions.list l.number) (looked_at (drop l.image-index l.image-items))
