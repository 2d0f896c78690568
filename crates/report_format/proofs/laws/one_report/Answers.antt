use Rattle.report_format.proofs.Files.{one_file}
use Rattle.report_format.proofs.laws.one_report.Goals as goal

pub returns : goal.returns
returns c = one_file
