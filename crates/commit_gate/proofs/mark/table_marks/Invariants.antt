use Rattle.std.proofs.Common.{◌≡◌, vec_len}
use Rattle.commit_gate.specs.Inside.Marks.{AreTableMarks}
use Rattle.commit_gate.proofs.mark.table_marks.Given as goal

abbrev pub invariant-loop-table : goal.invariant-loop-table
invariant-loop-table l = record {
  len : vec_len l.marks ≡ l.table;
  marks : AreTableMarks l.facts l.answered l.marks.items l.table;
}
