use Rattle.std.proofs.Common.{◌≡◌, [], take, drop}
use Rattle.server_words.specs.State.{opening}
use Rattle.server_words.specs.Step.{run}
use Rattle.captured_calls.specs.Tests.{asked, bad_reply, first_refused}
use Rattle.prepare_plan.proofs.replies.judge_replies.Given as goal

abbrev pub invariant-loop-call : goal.invariant-loop-call
invariant-loop-call l = record {
  steps : l.engine.steps ≡ l.call-index;
  state : l.engine.state ≡ run (opening l.start) (asked (take l.call-index l.calls));
  so_far : first_refused (bad_reply l.start) (take l.call-index l.calls) (drop l.call-index l.calls) ≡ first_refused (bad_reply l.start) [] l.calls;
}
