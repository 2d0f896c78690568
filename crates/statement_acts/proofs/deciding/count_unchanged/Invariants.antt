use Rattle.std.proofs.Common.{◌≡◌, ◌+◌, ◌≤◌, not, length, drop}
use Rattle.std.specs.List.{filter}
use Rattle.desk_values.specs.declared.value.Image.{Image}
use Rattle.sql_eval.specs.Totals.{looked_at}
use Rattle.server_words.specs.Writes.{is_among}
use Rattle.statement_acts.proofs.deciding.count_unchanged.Given as goal

abbrev pub invariant-loop-image : goal.invariant-loop-image
invariant-loop-image l = record {
  limit : l.count ≤ l.image-index;
  count : l.count + length (filter (λ (image : Image). not (is_among l.changes image)) (looked_at (drop l.image-index l.found))) ≡ length (filter (λ (image : Image). not (is_among l.changes image)) (looked_at l.found));
}
