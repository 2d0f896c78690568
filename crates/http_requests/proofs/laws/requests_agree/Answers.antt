use Rattle.http_requests.proofs.OneCut.{agree}
use Rattle.http_requests.proofs.laws.requests_agree.Goals as goal

pub returns : goal.returns
returns c = agree
