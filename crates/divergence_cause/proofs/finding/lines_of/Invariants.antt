use Rattle.std.proofs.Common.{◌≡◌, ◌++◌, drop, map}
use Rattle.divergence_cause.specs.Inside.{line_with}
use Rattle.divergence_cause.proofs.finding.lines_of.Given as goal

abbrev pub invariant-loop-line : goal.invariant-loop-line
invariant-loop-line l = l.list ++ map (line_with l.twins) (drop l.line-index l.lines) ≡ map (line_with l.twins) l.lines
