use Rattle.std.proofs.Common.{length}
use Rattle.sql_eval.proofs.statement_kinds.+targets_take.Given as goal

abbrev pub decreases-targets_take : goal.decreases-targets_take
decreases-targets_take g l = length l.targets.now
