use Rattle.std.proofs.Common.{◌≡◌, ◌++◌, ◌∷◌, take}
use Rattle.std.specs.List.{flat_map}
use Rattle.desk_values.specs.Text.{image_text}
use Rattle.desk_values.specs.declared.value.Image.{Image}
use Rattle.capture_format.proofs.reply.push_more.Given as goal

abbrev pub invariant-loop-image : goal.invariant-loop-image
invariant-loop-image l = l.to ≡ l.initial.to ++ flat_map (λ (image : Image). 59 ∷ image_text image) (take l.image-index l.images)
