use Rattle.std.proofs.Common.{◌≡◌, ◌≤◌, [], take, drop}
use Rattle.captured_calls.specs.Tests.{bad_number, first_refused}
use Rattle.replay_history.specs.Capture.{commits_in}
use Rattle.prepare_plan.proofs.recorded.judge_numbers.Given as goal

abbrev pub invariant-loop-call : goal.invariant-loop-call
invariant-loop-call l = record {
  few : l.commits ≤ l.call-index;
  commits : l.commits ≡ commits_in (take l.call-index l.calls);
  so_far : first_refused bad_number (take l.call-index l.calls) (drop l.call-index l.calls) ≡ first_refused bad_number [] l.calls;
}
