use Rattle.std.proofs.Common.{◌≡◌, ◌++◌, drop}
use Rattle.fence_law.specs.Inside.{stamps_in}
use Rattle.fence_law.proofs.reads.stamps_of.Given as goal

abbrev pub invariant-loop-stamp : goal.invariant-loop-stamp
invariant-loop-stamp l = l.stamps ++ stamps_in l.stamp (drop l.stamp l.marks) ≡ stamps_in 0 l.marks
