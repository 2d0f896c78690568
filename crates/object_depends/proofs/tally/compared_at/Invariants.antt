use Rattle.std.proofs.Common.{◌≡◌, ◌≤◌}
use Rattle.object_depends.specs.Required.{is_required, stamps_where}
use Rattle.object_depends.specs.Tallies.{tally_of}
use Rattle.object_depends.proofs.tally.compared_at.Given as goal

abbrev pub invariant-loop-j : goal.invariant-loop-j
invariant-loop-j l = record {
  few : l.tally.count ≤ l.j;
  tally : l.tally ≡ tally_of (stamps_where (is_required l.mode l.facts l.k) l.j);
}
