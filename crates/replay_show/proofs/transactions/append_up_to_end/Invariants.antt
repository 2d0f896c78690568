use Rattle.std.proofs.Common.{◌≡◌, ◌++◌, drop}
use Rattle.replay_show.specs.Transactions.{up_to_end}
use Rattle.replay_show.proofs.transactions.append_up_to_end.Given as goal

-- what was appended, and what is left
abbrev pub invariant-loop-call : goal.invariant-loop-call
invariant-loop-call l = l.to ++ up_to_end l.session l.stamp (drop l.call-index l.calls) ≡ l.fn.to ++ up_to_end l.session l.stamp l.calls
