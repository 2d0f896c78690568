use Rattle.report_format.proofs.Files.{read_back}
use Rattle.report_format.proofs.laws.written_is_read.Goals as goal

pub returns : goal.returns
returns c = read_back
