use Rattle.std.proofs.Common.{◌≡◌, ℕ, ◌<◌, [], take, drop, length}
use Rattle.std.specs.Prelude.{slice_index}
use Rattle.captured_calls.specs.Moments.{ended_in}
use Rattle.captured_calls.specs.Tests.{bad_times, first_refused}
use Rattle.prepare_plan.proofs.recorded.judge_times.Given as goal

abbrev pub invariant-loop-call : goal.invariant-loop-call
invariant-loop-call l = record {
  size : length l.ended ≡ 64;
  ended : (s : ℕ) → s < 64 → slice_index l.ended s ≡ ended_in s (take l.call-index l.calls);
  so_far : first_refused bad_times (take l.call-index l.calls) (drop l.call-index l.calls) ≡ first_refused bad_times [] l.calls;
}
