use Rattle.std.proofs.Common.{◌≡◌, ◌++◌, take}
use Rattle.std.specs.List.{flat_map}
use Rattle.replay_history.specs.declared.report.Line.{Line}
use Rattle.replay_history.specs.Texts.{line, line_text}
use Rattle.replay_report.proofs.texts.append_lines.Given as goal

abbrev pub invariant-loop-line : goal.invariant-loop-line
invariant-loop-line l = l.to ≡ l.fn.to ++ flat_map (λ (differing : Line). line (line_text differing)) (take l.line-index l.lines)
