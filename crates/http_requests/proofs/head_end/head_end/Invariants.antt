use Rattle.http_requests.proofs.HeadEnds.{NoneBelow}
use Rattle.http_requests.proofs.head_end.head_end.Given as goal

abbrev pub invariant-loop-end : goal.invariant-loop-end
invariant-loop-end l = NoneBelow l.bytes l.end
