use Rattle.std.proofs.Common.{◌≡◌, drop}
use Rattle.std.specs.List.{fold}
use Rattle.desk_values.specs.declared.value.Image.{Image}
use Rattle.captured_calls.specs.Facts.{with_table, tables_of_images}
use Rattle.prepare_plan.proofs.facts.tables_of_images.Given as goal

abbrev pub invariant-loop-image : goal.invariant-loop-image
invariant-loop-image l = fold (λ tables (image : Image). with_table tables image.table) l.tables (drop l.image-index l.images) ≡ tables_of_images l.images
