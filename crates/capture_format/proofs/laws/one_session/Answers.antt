use Rattle.capture_format.proofs.SessionFiles.{one_file}
use Rattle.capture_format.proofs.laws.one_session.Goals as goal

pub returns : goal.returns
returns c = one_file
