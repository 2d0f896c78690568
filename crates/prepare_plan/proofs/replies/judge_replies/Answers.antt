use Rattle.std.proofs.Common.{sym, ◌∙◌, ap, ◌+◌, ℕ, take}
use Rattle.captured_calls.specs.Tests.{bad_reply}
use Rattle.prepare_plan.proofs.Walking.{reply_passes, run_next}
use Rattle.captured_calls.proofs.Scanning.{walk_on}
use Rattle.prepare_plan.proofs.replies.judge_replies.Goals as goal

pub loop-call-preserved : goal.loop-call-preserved
loop-call-preserved c =
    let start = c.args.start.now in
    let calls = c.args.calls.now in
    let i = c.loop-call.call-index in
    let call = c.call-item.result in
    let state = c.loop-call.engine.state in
    record {
      steps = c.in_ok-right.ensures.steps ∙ ap (λ (n : ℕ). n + 1) c.loop-call.invariant.steps;
      state = run_next start calls i call state c.step.new.self.state c.loop-call-test.true c.call-item.is c.loop-call.invariant.state c.in_ok-right.ensures.ok.1;
      so_far = walk_on (bad_reply start) calls i call c.loop-call-test.true c.call-item.is c.loop-call.invariant.so_far
          (reply_passes start (take i calls) call state c.in_ok-right.right c.loop-call.invariant.state c.in_ok-right.ensures.ok.0 (sym c.is_same.ensures ∙ c.if-not-is_same.false));
    }
