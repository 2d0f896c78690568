use Rattle.std.proofs.Common.{◌≡◌, ◌++◌, take}
use Rattle.std.specs.List.{flat_map}
use Rattle.register_work.specs.Lines.{difference_line}
use Rattle.register_work.proofs.lines.append_differences.Given as goal

abbrev pub invariant-loop-difference : goal.invariant-loop-difference
invariant-loop-difference l = l.to ≡ l.fn.to ++ flat_map difference_line (take l.difference-index l.found)
