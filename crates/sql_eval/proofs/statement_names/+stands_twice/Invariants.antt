use Rattle.std.proofs.Common.{length}
use Rattle.sql_eval.proofs.statement_names.+stands_twice.Given as goal

abbrev pub decreases-stands_twice : goal.decreases-stands_twice
decreases-stands_twice l = length l.places.now
