use Rattle.std.proofs.Common.{◌≡◌, ◌++◌, drop}
use Rattle.replay_show.specs.Lines.{differing_from, differing_lines}
use Rattle.replay_show.specs.Shown.{seen}
use Rattle.replay_show.proofs.differing.differing_lines.Given as goal

-- what was appended, and what is left
abbrev pub invariant-loop-n : goal.invariant-loop-n
invariant-loop-n l = l.lines ++ differing_from (seen l.shown) l.n (drop l.n l.shown.run.report.lines) ≡ differing_lines (seen l.shown)
