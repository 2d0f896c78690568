use Rattle.std.proofs.Common.{◌≡◌, Bool, drop, map}
use Rattle.std.specs.List.{list_any}
use Rattle.desk_values.specs.Comparison.{same_key}
use Rattle.sql_eval.specs.Totals.{looked_at}
use Rattle.desk_values.specs.declared.value.Image.{Image}
use Rattle.server_words.specs.Rows.{row_key}
use Rattle.visited_rows.specs.Inside.Indexed.{committed_rows, staying}
use Rattle.visited_rows.proofs.basis.some_meets_staying.Given as goal

abbrev pub invariant-loop-image : goal.invariant-loop-image
invariant-loop-image l =
    let meets : Image → Bool = λ (image : Image). list_any (same_key l.with.level (row_key image)) (map row_key (staying (committed_rows l.indexed.basis) (looked_at l.indexed.changes.now))) in
    list_any meets (looked_at (drop l.image-index l.images)) ≡ list_any meets (looked_at l.images)
