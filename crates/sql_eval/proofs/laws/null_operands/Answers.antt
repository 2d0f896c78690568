use Rattle.sql_eval.proofs.Tables.{null_is_null, null_is_unknown}
use Rattle.sql_eval.proofs.laws.null_operands.Goals as goal

pub returns : goal.returns
returns c = record { unknown = null_is_unknown; null = null_is_null }
