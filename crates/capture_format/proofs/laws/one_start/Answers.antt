use Rattle.capture_format.proofs.StartFiles.{one_file}
use Rattle.capture_format.proofs.laws.one_start.Goals as goal

pub returns : goal.returns
returns c = one_file
