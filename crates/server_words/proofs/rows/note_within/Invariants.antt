use Rattle.std.proofs.Common.{◌≡◌, ◌+◌, ◌≤◌, vec_len, reverse}
use Rattle.std.specs.Vec.{vec_capacity}
use Rattle.server_words.specs.Rows.{IsRising, noted}
use Rattle.server_words.proofs.rows.note_within.Given as goal

abbrev pub decreases-loop-image : goal.decreases-loop-image
decreases-loop-image l = vec_len l.left

abbrev pub invariant-loop-image : goal.invariant-loop-image
invariant-loop-image l = record {
  rising : IsRising l.images.items;
  room : vec_len l.images + vec_len l.left ≤ vec_capacity l.images;
  noted : noted l.images.items (reverse l.left.items) ≡ noted l.fn.images.items l.fn.changes.items;
}
