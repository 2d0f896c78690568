use Rattle.law_replays.proofs.Reports.Named.{lines_name, no_line_none}
use Rattle.law_replays.proofs.report_laws.lines_name_what_differs.Goals as goal

pub returns-clause-named : goal.returns-clause-named
returns-clause-named c = lines_name

pub returns-clause-none : goal.returns-clause-none
returns-clause-none c = no_line_none
