use Rattle.law_replays.proofs.Reports.Classed.{pairs_once}
use Rattle.law_replays.proofs.report_laws.pairs_are_once.Goals as goal

pub returns : goal.returns
returns c = pairs_once
