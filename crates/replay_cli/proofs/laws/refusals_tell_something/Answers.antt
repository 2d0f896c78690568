use Rattle.replay_cli.proofs.Causes.{causes_have_text, changes_from_one, journals_from_one, lines_from_one, reads_from_one, reports_from_one, rows_from_one}
use Rattle.replay_cli.proofs.laws.refusals_tell_something.Goals as goal

pub returns-clause-line : goal.returns-clause-line
returns-clause-line c = lines_from_one

pub returns-clause-report : goal.returns-clause-report
returns-clause-report c = reports_from_one

pub returns-clause-row : goal.returns-clause-row
returns-clause-row c = rows_from_one

pub returns-clause-cause : goal.returns-clause-cause
returns-clause-cause c = causes_have_text

pub returns-clause-change : goal.returns-clause-change
returns-clause-change c = changes_from_one

pub returns-clause-journal : goal.returns-clause-journal
returns-clause-journal c = journals_from_one

pub returns-clause-reads : goal.returns-clause-reads
returns-clause-reads c = reads_from_one
