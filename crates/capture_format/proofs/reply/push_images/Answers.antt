use Rattle.std.proofs.Common.{refl, ◌≡◌, ℕ, ◌-◌, ◌<◌, List, [], ◌∷◌, ◌++◌, take, drop, length, map, sym, ◌∙◌, ap, append_assoc, arith}
use Rattle.std.specs.List.{flat_map, join_with_byte}
use Rattle.std.proofs.lemmas.List.{take_rest}
use Rattle.desk_values.specs.declared.value.Image.{Image}
use Rattle.desk_values.specs.Text.{image_text, images_text}
use Rattle.desk_values.proofs.Cuts.{join_first}
use Rattle.capture_format.proofs.reply.push_images.Goals as goal

spelled : (images : List Image) → 0 < length images → images_text images ≡ join_with_byte 59 (map image_text images)
spelled [] some = absurd (omega arith)
spelled (image ∷ images) some = refl

pub returns : goal.returns
returns c =
    let images = c.args.images.now in
    let others : flat_map (λ (image : Image). 59 ∷ image_text image) (take (length images - 1) (drop 1 images)) ≡ flat_map (λ (image : Image). 59 ∷ image_text image) (drop 1 images) = ap (λ (is : List Image). flat_map (λ (image : Image). 59 ∷ image_text image) is) (take_rest images 1) in
    rw (c.in_ok-push_more.ensures, c.in_ok-push_image.ensures, others)
    (append_assoc c.args.to.now (image_text c.first-item.result) (flat_map (λ (image : Image). 59 ∷ image_text image) (drop 1 images)) ∙ ap (λ (bs : List ℕ). c.args.to.now ++ bs) (sym (spelled images (omega arith) ∙ join_first 59 image_text images c.first-item.result (omega arith) c.first-item.is)))
