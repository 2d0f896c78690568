use Rattle.std.proofs.Common.{◌≡◌, ◌≤◌, [], take, drop}
use Rattle.captured_calls.specs.Tests.{bad_seen, first_refused}
use Rattle.replay_history.specs.Capture.{commits_in}
use Rattle.prepare_plan.proofs.recorded.judge_seen.Given as goal

abbrev pub invariant-loop-call : goal.invariant-loop-call
invariant-loop-call l = record {
  few : l.commits ≤ l.call-index;
  commits : l.commits ≡ commits_in (take l.call-index l.calls);
  so_far : first_refused bad_seen (take l.call-index l.calls) (drop l.call-index l.calls) ≡ first_refused bad_seen [] l.calls;
}
