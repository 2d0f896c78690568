use Rattle.std.proofs.Common.{◌≡◌, ◌++◌, drop}
use Rattle.sql_eval.specs.Totals.{looked_at}
use Rattle.server_words.specs.Rows.{all_shown}
use Rattle.machine_stores.proofs.seeing.shown_of.Given as goal

abbrev pub invariant-loop-change : goal.invariant-loop-change
invariant-loop-change l = looked_at l.seen.items ++ all_shown (looked_at (drop l.change-index l.changes)) ≡ all_shown (looked_at l.changes)
