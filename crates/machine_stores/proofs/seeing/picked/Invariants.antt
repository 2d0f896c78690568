use Rattle.std.proofs.Common.{◌≡◌, ◌++◌, drop}
use Rattle.server_words.specs.Rows.{of_table}
use Rattle.sql_eval.specs.Totals.{looked_at}
use Rattle.machine_stores.proofs.seeing.picked.Given as goal

abbrev pub invariant-loop-image : goal.invariant-loop-image
invariant-loop-image l = looked_at l.seen.items ++ of_table l.table (drop l.image-index l.images) ≡ of_table l.table l.images
