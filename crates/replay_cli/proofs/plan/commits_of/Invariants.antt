use Rattle.std.proofs.Common.{◌≡◌, ◌≤◌}
use Rattle.replay_history.specs.Capture.{commits_before}
use Rattle.replay_cli.proofs.plan.commits_of.Given as goal

abbrev pub invariant-loop-call : goal.invariant-loop-call
invariant-loop-call l = record {
  count_is : l.count ≡ commits_before l.calls l.call-index;
  few : l.count ≤ l.call-index;
}
