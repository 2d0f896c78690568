use Rattle.law_server.proofs.Levels.{greatest_goes_by_bytes, keys_count_whole, least_goes_by_bytes, quotients_are_plain, texts_compare_by_bytes, values_are_stored}
use Rattle.law_server.proofs.level_laws.level_one_is_plain.Goals as goal

pub returns-clause-texts : goal.returns-clause-texts
returns-clause-texts c = texts_compare_by_bytes

pub returns-clause-least : goal.returns-clause-least
returns-clause-least c = least_goes_by_bytes

pub returns-clause-greatest : goal.returns-clause-greatest
returns-clause-greatest c = greatest_goes_by_bytes

pub returns-clause-quotients : goal.returns-clause-quotients
returns-clause-quotients c = quotients_are_plain

pub returns-clause-keys : goal.returns-clause-keys
returns-clause-keys c = keys_count_whole

pub returns-clause-values : goal.returns-clause-values
returns-clause-values c = values_are_stored
