use Rattle.std.proofs.Common.{◌∙◌, length, ap}
use Rattle.capture_recorder.proofs.Answering.{answer_is}
use Rattle.capture_recorder.proofs.locked_door.answered.Goals as goal

pub returns-clause-answer : goal.returns-clause-answer
returns-clause-answer c = answer_is c.args.recorder.now c.args.call c.len-held.result (c.len-held.ensures ∙ ap length c.calls.ensures.value) c.accept.result c.accept.ensures.turned c.accept.ensures.good c.accept.ensures.same
