use Rattle.law_replays.proofs.Reports.Named.{again_clean}
use Rattle.law_replays.proofs.report_laws.captured_order_has_no_line.Goals as goal

pub returns : goal.returns
returns c = again_clean
