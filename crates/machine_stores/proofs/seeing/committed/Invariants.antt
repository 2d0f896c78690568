use Rattle.std.proofs.Common.{◌≡◌, drop, map}
use Rattle.server_words.specs.Rows.{lay_all, of_table}
use Rattle.sql_eval.specs.Totals.{looked_at}
use Rattle.machine_stores.proofs.seeing.committed.Given as goal

abbrev pub invariant-loop-commit : goal.invariant-loop-commit
invariant-loop-commit l = lay_all (looked_at l.seen.items) (map (of_table l.table) (drop l.commit-index l.commits)) ≡ lay_all (of_table l.table l.start) (map (of_table l.table) l.commits)
