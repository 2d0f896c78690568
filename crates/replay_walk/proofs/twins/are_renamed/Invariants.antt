use Rattle.std.proofs.Common.{take}
use Rattle.std.specs.List.{AllZip}
use Rattle.id_pairs.specs.Renaming.{IsRenamed}
use Rattle.replay_walk.proofs.twins.are_renamed.Given as goal

abbrev pub invariant-loop-i : goal.invariant-loop-i
invariant-loop-i l = AllZip (IsRenamed l.map.pairs) (take l.i l.values) (take l.i l.others)
