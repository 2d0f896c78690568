use Rattle.std.proofs.Common.{◌≡◌, ◌++◌, take}
use Rattle.std.specs.List.{flat_map}
use Rattle.divergence_cause.specs.Text.{cause_line}
use Rattle.divergence_cause.proofs.texts.append_lines.Given as goal

abbrev pub invariant-loop-line : goal.invariant-loop-line
invariant-loop-line l = l.to ≡ l.fn.to ++ flat_map cause_line (take l.line-index l.lines)
