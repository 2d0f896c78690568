use Rattle.std.proofs.Common.{◌≡◌, ℕ, ◌<◌, ◌≤◌, true}
use Rattle.object_depends.specs.Facts.{has_table}
use Rattle.commit_gate.specs.Inside.Marks.{mark_at}
use Rattle.commit_gate.proofs.gate.tables_passed.Given as goal

abbrev pub invariant-loop-table : goal.invariant-loop-table
invariant-loop-table l = (table : ℕ) → table < l.table → has_table l.refs table ≡ true → l.k ≤ (mark_at l.marks table).at
