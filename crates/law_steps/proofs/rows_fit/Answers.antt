use Rattle.law_steps.proofs.Fits.{openings_fit, runs_fit, seen_rows_fill, seen_rows_have_kinds, steps_keep_fit, tables_fill}
use Rattle.law_steps.proofs.rows_fit.Goals as goal

pub returns-clause-opening : goal.returns-clause-opening
returns-clause-opening c = openings_fit

pub returns-clause-step : goal.returns-clause-step
returns-clause-step c = steps_keep_fit

pub returns-clause-run : goal.returns-clause-run
returns-clause-run c = runs_fit

pub returns-clause-tables : goal.returns-clause-tables
returns-clause-tables c = tables_fill

pub returns-clause-seen : goal.returns-clause-seen
returns-clause-seen c = seen_rows_fill

pub returns-clause-kinds : goal.returns-clause-kinds
returns-clause-kinds c = seen_rows_have_kinds
