use Rattle.std.proofs.Common.{take}
use Rattle.std.specs.List.{AllZip}
use Rattle.replay_walk.specs.Twins.{AreTwinPoints}
use Rattle.replay_walk.proofs.twins.twin_points.Given as goal

abbrev pub invariant-loop-i : goal.invariant-loop-i
invariant-loop-i l = AllZip (AreTwinPoints l.map.pairs) (take l.i l.a) (take l.i l.b)
