use Rattle.std.proofs.Common.{◌≡◌, ◌++◌, drop}
use Rattle.std.specs.List.{list_any}
use Rattle.sql_eval.specs.Totals.{looked_at}
use Rattle.server_words.specs.View.{is_held}
use Rattle.machine_stores.proofs.holds.hold_some_row.Given as goal

abbrev pub invariant-loop-image : goal.invariant-loop-image
invariant-loop-image l = list_any (is_held (l.others.before.now ++ l.others.after.now)) (looked_at (drop l.image-index l.rows)) ≡ list_any (is_held (l.others.before.now ++ l.others.after.now)) (looked_at l.rows)
