use Rattle.std.proofs.Common.{◌≡◌, ◌+◌, ◌++◌, drop}
use Rattle.replay_show.specs.Lines.{bind_lines}
use Rattle.replay_show.proofs.one_call.append_binds.Given as goal

-- what was appended, and what is left
abbrev pub invariant-loop-i : goal.invariant-loop-i
invariant-loop-i l = l.to ++ bind_lines l.schema (l.i + 1) (drop l.i l.values) ≡ l.fn.to ++ bind_lines l.schema 1 l.values
