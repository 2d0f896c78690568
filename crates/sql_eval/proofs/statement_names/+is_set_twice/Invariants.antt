use Rattle.std.proofs.Common.{length}
use Rattle.sql_eval.proofs.statement_names.+is_set_twice.Given as goal

abbrev pub decreases-is_set_twice : goal.decreases-is_set_twice
decreases-is_set_twice l = length l.settings.now
