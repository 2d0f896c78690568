use Rattle.captured_calls.proofs.Sameness.{reply_decided, same_tests}
use Rattle.prepare_plan.proofs.replies.is_same.Goals as goal

pub returns : goal.returns
returns c = same_tests c.same.result _ c.same.ensures (reply_decided c.args.written.now c.args.right.now)
