use Rattle.std.proofs.Common.{sym, ap, ◌∙◌, arith, take}
use Rattle.captured_calls.specs.Tests.{bad_number}
use Rattle.replay_history.specs.Capture.{commits_in}
use Rattle.captured_calls.proofs.Scanning.{taken, walk_on, walk_stops}
use Rattle.prepare_plan.proofs.Walking.{number_fails, number_passes}
use Rattle.prepare_plan.proofs.recorded.judge_numbers.Goals as goal

pub returns-then-call-right : goal.returns-then-call-right
returns-then-call-right c = walk_stops bad_number c.args.calls.now c.loop-call.call-index c.call-item.result c.loop-call-test.true c.call-item.is c.loop-call.invariant.so_far _
    (number_fails (take c.loop-call.call-index c.args.calls.now) c.call-item.result c.right_number-right.result (c.right_number-right.ensures (take c.loop-call.call-index c.args.calls.now) c.loop-call.invariant.commits) c.if-call-right.true)

pub loop-call-preserved : goal.loop-call-preserved
loop-call-preserved c =
    let before = take c.loop-call.call-index c.args.calls.now in
    record {
      few = omega (arith, c.commits_with-commits.ensures.most, c.loop-call.invariant.few);
      commits = c.commits_with-commits.ensures.value before c.loop-call.invariant.commits ∙ ap commits_in (sym (taken c.args.calls.now c.loop-call.call-index c.call-item.result c.loop-call-test.true c.call-item.is));
      so_far = walk_on bad_number c.args.calls.now c.loop-call.call-index c.call-item.result c.loop-call-test.true c.call-item.is c.loop-call.invariant.so_far
          (number_passes before c.call-item.result c.right_number-right.result (c.right_number-right.ensures before c.loop-call.invariant.commits) c.if-call-right.false);
    }
