use Rattle.std.proofs.Common.{◌≡◌, ◌≤◌, ◌+◌, drop, length}
use Rattle.id_pairs.specs.Pairs.{all_new, drawn_pairs}
use Rattle.remap_ids.proofs.learning.add_drawn.Given as goal

abbrev pub invariant-loop-place : goal.invariant-loop-place
invariant-loop-place l = record {
  pairs : all_new l.pairs.pairs (drawn_pairs (drop l.place l.captured) (drop l.place l.replayed)) ≡ all_new l.initial.pairs.pairs (drawn_pairs l.captured l.replayed);
  room : l.initial.pairs.spare ≤ l.pairs.spare + l.place;
  whole : l.initial.pairs.spare + length l.initial.pairs.pairs ≤ l.pairs.spare + length l.pairs.pairs;
  kept : length l.initial.pairs.pairs ≤ length l.pairs.pairs;
}
