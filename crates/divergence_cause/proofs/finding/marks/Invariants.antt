use Rattle.std.proofs.Common.{◌≡◌, false, replicate, take}
use Rattle.std.specs.List.{fold}
use Rattle.divergence_cause.specs.Causes.{with_mark}
use Rattle.divergence_cause.proofs.finding.marks.Given as goal

abbrev pub invariant-loop-line : goal.invariant-loop-line
invariant-loop-line l = l.marks.items ≡ fold with_mark (replicate l.calls false) (take l.line-index l.lines)
