use Rattle.report_format.proofs.Files.{one_bad}
use Rattle.report_format.proofs.laws.one_bad_report.Goals as goal

pub returns : goal.returns
returns c = one_bad
