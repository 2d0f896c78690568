use Rattle.fence_law.specs.Inside.{AreReadMarks}
use Rattle.fence_law.proofs.reads.read_marks.Given as goal

abbrev pub invariant-loop-place : goal.invariant-loop-place
invariant-loop-place l = AreReadMarks l.calls l.open_calls l.place l.marks.items
