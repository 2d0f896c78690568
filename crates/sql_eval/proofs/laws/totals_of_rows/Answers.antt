use Rattle.sql_eval.proofs.TotalLaws.{max_is_greatest, min_is_least, total_ignores_order}
use Rattle.sql_eval.proofs.laws.totals_of_rows.Goals as goal

pub returns : goal.returns
returns c = record { order = total_ignores_order; min = min_is_least; max = max_is_greatest }
