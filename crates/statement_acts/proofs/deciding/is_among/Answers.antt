use Rattle.std.proofs.Common.{rules}
use Rattle.std.proofs.lemmas.List.Sorted.{answers_always}
use Rattle.desk_values.specs.declared.value.Image.{Image}
use Rattle.server_words.specs.Rows.{IsRising}
use Rattle.visited_rows.proofs.Standing.{found_stands, gap_stands_nowhere}
use Rattle.statement_acts.proofs.deciding.is_among.Goals as goal

pub returns-in-Ok : goal.returns-in-Ok
returns-in-Ok c = rw (← c.as_slice-changes.ensures.value) (found_stands c.args.image.now.row c.as_slice-changes.result.now _ c.in-Ok.ensures.bound (c.in-Ok.ensures.position (λ (image : Image). image.row) (answers_always _ _ _ (λ f a r g called. search rules))))

pub returns-in-Err : goal.returns-in-Err
returns-in-Err c =
    let up : IsRising c.as_slice-changes.result.now = rw c.as_slice-changes.ensures.value c.as_slice-changes.ensures.rising in
    rw (← c.as_slice-changes.ensures.value) (gap_stands_nowhere c.args.image.now.row c.as_slice-changes.result.now up _ c.in-Err.ensures.bound (c.in-Err.ensures.position (λ (image : Image). image.row) (answers_always _ _ _ (λ f a r g called. search rules))))
