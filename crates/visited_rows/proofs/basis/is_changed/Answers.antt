use Rattle.std.proofs.Common.{rules}
use Rattle.std.proofs.lemmas.List.Sorted.{answers_always}
use denote.Ref.{Bor}
use Rattle.desk_values.specs.declared.value.Image.{Image}
use Rattle.visited_rows.proofs.Standing.{found_looked, gap_looked}
use Rattle.visited_rows.proofs.basis.is_changed.Goals as goal

pub returns-in-Ok : goal.returns-in-Ok
returns-in-Ok c = found_looked c.args.image.now.row c.args.indexed.changes.now _ c.in-Ok.ensures.bound (c.in-Ok.ensures.position (λ (b : Bor Image). b.now.row) (answers_always _ _ _ (λ f a r g called. search rules)))

pub returns-in-Err : goal.returns-in-Err
returns-in-Err c = gap_looked c.args.image.now.row c.args.indexed.changes.now c.requires.changes _ c.in-Err.ensures.bound (c.in-Err.ensures.position (λ (b : Bor Image). b.now.row) (answers_always _ _ _ (λ f a r g called. search rules)))
