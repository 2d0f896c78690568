use Rattle.law_replays.proofs.Reports.Classed.{each_classed}
use Rattle.law_replays.proofs.report_laws.reports_class_each_call.Goals as goal

pub returns : goal.returns
returns c = each_classed
