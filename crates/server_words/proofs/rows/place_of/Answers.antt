use Rattle.std.proofs.Common.{rules}
use Rattle.std.proofs.lemmas.List.Sorted.{answers_always}
use Rattle.desk_values.specs.declared.value.Image.{Image}
use Rattle.server_words.proofs.Laying.{found_place, gap_place}
use Rattle.server_words.proofs.rows.place_of.Goals as goal

pub returns-in-Ok : goal.returns-in-Ok
returns-in-Ok c = found_place c.args.row c.args.images.now c.requires _ c.in-Ok.ensures.bound (c.in-Ok.ensures.position (λ (image : Image). image.row) (answers_always _ _ _ (λ f a r g called. search rules)))

pub returns-in-Err : goal.returns-in-Err
returns-in-Err c = gap_place c.args.row c.args.images.now c.requires _ c.in-Err.ensures.bound (c.in-Err.ensures.position (λ (image : Image). image.row) (answers_always _ _ _ (λ f a r g called. search rules)))
