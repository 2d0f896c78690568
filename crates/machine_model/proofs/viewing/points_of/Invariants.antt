use Rattle.std.proofs.Common.{take}
use Rattle.std.specs.List.{AllZip}
use Rattle.server_words.specs.Views.{IsPointOf}
use Rattle.machine_model.proofs.viewing.points_of.Given as goal

abbrev pub invariant-loop-savepoint : goal.invariant-loop-savepoint
invariant-loop-savepoint l = AllZip IsPointOf (take l.savepoint-index l.savepoints) l.points
