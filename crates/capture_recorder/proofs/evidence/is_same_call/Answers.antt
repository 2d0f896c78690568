use Rattle.captured_calls.proofs.Sameness.{same_tests}
use Rattle.capture_recorder.proofs.Saying.{call_decided}
use Rattle.capture_recorder.specs.Gathering.{same_call}
use Rattle.capture_recorder.proofs.evidence.is_same_call.Goals as goal

pub returns : goal.returns
returns c = same_tests c.same.result (same_call c.args.kept.now c.args.said.now) c.same.ensures (call_decided c.args.kept.now c.args.said.now)
