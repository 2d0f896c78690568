use Rattle.captured_calls.proofs.Sameness.{same_tests, reply_decided}
use Rattle.captured_calls.specs.Same.{same_reply}
use Rattle.capture_recorder.proofs.evidence.is_same_reply.Goals as goal

pub returns : goal.returns
returns c = same_tests c.same.result (same_reply c.args.kept.now c.args.said.now) c.same.ensures (reply_decided c.args.kept.now c.args.said.now)
