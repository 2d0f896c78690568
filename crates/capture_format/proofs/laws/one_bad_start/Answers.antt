use Rattle.capture_format.proofs.StartFiles.{one_bad}
use Rattle.capture_format.proofs.laws.one_bad_start.Goals as goal

pub returns : goal.returns
returns c = one_bad
