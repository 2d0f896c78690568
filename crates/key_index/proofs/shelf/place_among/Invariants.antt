use Rattle.std.proofs.Common.{◌≡◌, ◌+◌, ◌-◌, ◌≤◌, drop, length}
use Rattle.key_index.specs.Inside.Shelves.{position_of}
use Rattle.key_index.proofs.shelf.place_among.Given as goal

abbrev pub invariant-loop-at : goal.invariant-loop-at
invariant-loop-at l = record {
  within : l.at ≤ length l.groups;
  place : l.at + position_of l.level l.table l.key (drop l.at l.groups) ≡ position_of l.level l.table l.key l.groups;
}

abbrev pub decreases-loop-at : goal.decreases-loop-at
decreases-loop-at l = length l.groups - l.at
