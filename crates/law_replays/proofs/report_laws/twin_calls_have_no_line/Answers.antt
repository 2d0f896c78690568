use Rattle.law_replays.proofs.Reports.Named.{twins_not_named}
use Rattle.law_replays.proofs.report_laws.twin_calls_have_no_line.Goals as goal

pub returns : goal.returns
returns c = twins_not_named
