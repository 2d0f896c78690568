use Rattle.std.proofs.Common.{◌≡◌, ◌++◌, take}
use Rattle.std.specs.List.{flat_map}
use Rattle.replay_show.specs.Lines.{step_line}
use Rattle.replay_show.proofs.transactions.append_steps.Given as goal

abbrev pub invariant-loop-call : goal.invariant-loop-call
invariant-loop-call l = l.to ≡ l.fn.to ++ flat_map (step_line l.lines) (take l.call-index l.calls)
