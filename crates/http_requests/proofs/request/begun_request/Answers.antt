use Rattle.std.proofs.Common.{◌≡◌, min, length, rules, arith}
use Rattle.http_requests.proofs.Beginning.{endless-at}
use Rattle.http_requests.proofs.request.begun_request.Goals as goal

pub returns-in-None-2-clause-begun : goal.returns-in-None-2-clause-begun
returns-in-None-2-clause-begun c = let full : c.min.result ≡ 8192 = omega (arith, c.min.ensures, c.if-bytes-lt-HEAD_LIMIT.false) in rw c.refusal.ensures (endless-at c.args.bytes.now c.if-bytes-lt-HEAD_LIMIT.false (rw full at c.in-None-2.ensures.none))
