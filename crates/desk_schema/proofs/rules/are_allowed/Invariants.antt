use Rattle.desk_schema.specs.Rules.{IsAllowed}
use Rattle.desk_schema.proofs.Fitting.{Remain}
use Rattle.desk_schema.proofs.rules.are_allowed.Given as goal

abbrev pub invariant-loop-i : goal.invariant-loop-i
invariant-loop-i l = Remain (IsAllowed l.next_values) l.columns l.values l.i
