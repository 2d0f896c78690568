use Rattle.run_files.proofs.Fits.{count_fits, events_fit, places_fit}
use Rattle.run_files.proofs.laws.fitting_files_are_of_the_calls.Goals as goal

pub returns-clause-events : goal.returns-clause-events
returns-clause-events c = events_fit

pub returns-clause-count : goal.returns-clause-count
returns-clause-count c = count_fits

pub returns-clause-places : goal.returns-clause-places
returns-clause-places c = places_fit
