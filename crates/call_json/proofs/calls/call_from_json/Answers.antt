use Rattle.call_json.proofs.SpelledTexts.{spelled_call}
use Rattle.call_json.proofs.calls.call_from_json.Goals as goal

pub returns-in-Some-clause-ok : goal.returns-in-Some-clause-ok
returns-in-Some-clause-ok c = spelled_call c.args.bytes.now c.in-Some.call c.in-Some.ensures.0 c.in-Some.ensures.1 c.has_limits.ensures.limits
