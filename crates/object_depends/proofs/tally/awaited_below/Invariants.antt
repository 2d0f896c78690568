use Rattle.std.proofs.Common.{◌≡◌}
use Rattle.object_depends.specs.Tallies.{tally_of}
use Rattle.object_depends.specs.Inside.{awaited}
use Rattle.object_depends.proofs.tally.awaited_below.Given as goal

abbrev pub invariant-loop-j : goal.invariant-loop-j
invariant-loop-j l = l.tally ≡ tally_of (awaited l.mode l.facts l.call l.j)
