use Rattle.call_json.proofs.CallsRead.{one_call}
use Rattle.call_json.proofs.laws.one_json_call.Goals as goal

pub returns : goal.returns
returns c = one_call
