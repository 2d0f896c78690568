use Rattle.std.proofs.Common.{◌≡◌, ◌++◌, drop}
use Rattle.replay_report.specs.Inside.Written.{differences}
use Rattle.replay_report.proofs.report.lines_of.Given as goal

abbrev pub invariant-loop-i : goal.invariant-loop-i
invariant-loop-i l = l.lines ++ differences (drop l.i l.calls) (drop l.i l.classes) ≡ differences l.calls l.classes
