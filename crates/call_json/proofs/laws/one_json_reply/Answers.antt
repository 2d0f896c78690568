use Rattle.call_json.proofs.RepliesRead.{one_reply}
use Rattle.call_json.proofs.laws.one_json_reply.Goals as goal

pub returns : goal.returns
returns c = one_reply
