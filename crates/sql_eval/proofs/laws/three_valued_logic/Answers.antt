use Rattle.sql_eval.proofs.Tables.{and_by_table, not_by_table, or_by_table, standard_tables}
use Rattle.sql_eval.proofs.laws.three_valued_logic.Goals as goal

pub returns : goal.returns
returns c = record { tables = standard_tables; not = not_by_table; and = and_by_table; or = or_by_table }
