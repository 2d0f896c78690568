use Rattle.capture_format.proofs.SessionFiles.{one_bad}
use Rattle.capture_format.proofs.laws.one_bad_session.Goals as goal

pub returns : goal.returns
returns c = one_bad
