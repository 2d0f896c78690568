use Rattle.commit_gate.specs.Inside.Marks.{IsPassed}
use Rattle.commit_gate.proofs.mark.advance.Given as goal

abbrev pub invariant-loop-at : goal.invariant-loop-at
invariant-loop-at l = IsPassed l.watch l.facts l.answered l.at l.count
