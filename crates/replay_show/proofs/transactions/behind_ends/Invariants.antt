use Rattle.std.proofs.Common.{◌≡◌, [], take}
use Rattle.std.specs.List.{fold}
use Rattle.replay_show.specs.Transactions.{kept_behind}
use Rattle.replay_show.proofs.transactions.behind_ends.Given as goal

abbrev pub invariant-loop-call : goal.invariant-loop-call
invariant-loop-call l = l.found ≡ fold (kept_behind l.session l.stamp) [] (take l.call-index l.calls)
