use Rattle.std.proofs.Common.{◌≡◌, ℕ, ◌+◌, ◌<◌, ◌≤◌, length}
use Rattle.object_depends.specs.Tallies.{tally_of}
use Rattle.object_depends.specs.Inside.{awaited, group_at}
use Rattle.object_depends.proofs.tally.note.Given as goal

abbrev pub invariant-loop-i : goal.invariant-loop-i
invariant-loop-i l = record {
  done : (i : ℕ) → i < l.i → (group_at l.groups i).tally ≡ tally_of (awaited l.mode l.facts (group_at l.groups i).call (l.k + 1));
  left : (i : ℕ) → l.i ≤ i → i < length l.groups → (group_at l.groups i).tally ≡ tally_of (awaited l.mode l.facts (group_at l.groups i).call l.k);
}
