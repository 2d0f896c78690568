use Rattle.server_words.proofs.Ordering.{in_order, same_rows}
use Rattle.server_words.proofs.laws.rows_are_ordered.Goals as goal

pub returns-clause-rows : goal.returns-clause-rows
returns-clause-rows c = same_rows

pub returns-clause-order : goal.returns-clause-order
returns-clause-order c = in_order
