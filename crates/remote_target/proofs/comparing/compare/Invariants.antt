use Rattle.std.proofs.Common.{map, take}
use Rattle.std.specs.List.{AllByRecursion}
use Rattle.remote_target.specs.Agreement.{AgreesOn, heard_on}
use Rattle.remote_target.proofs.comparing.compare.Given as goal

abbrev pub invariant-loop-line : goal.invariant-loop-line
invariant-loop-line g l = AllByRecursion (AgreesOn l.desk) (take l.line-index (map heard_on l.lines))
