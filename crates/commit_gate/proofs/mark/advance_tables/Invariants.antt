use Rattle.std.proofs.Common.{ℕ, ◌<◌, ◌≤◌}
use Rattle.commit_gate.specs.declared.mark.Watch.TheVariants.{Table}
use Rattle.commit_gate.specs.Inside.Marks.{AreTableMarks, IsPassed, mark_at}
use Rattle.commit_gate.proofs.mark.advance_tables.Given as goal

abbrev pub invariant-loop-table : goal.invariant-loop-table
invariant-loop-table l = record {
  done : AreTableMarks l.facts l.answered l.marks l.table;
  left : (table : ℕ) → l.table ≤ table → table < 32 → IsPassed (Table table) l.facts l.answered (mark_at l.marks table).at (mark_at l.marks table).count;
}
