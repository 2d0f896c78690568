use Rattle.std.proofs.Common.{◌≡◌, Bool, Some}
use Rattle.std.specs.Prelude.{◌↔◌, IsTrue}
use Rattle.std.proofs.lemmas.Result.{IfOk-weaker}
use Rattle.law_server.specs.Renaming.Twins.{AreSets}
use Rattle.desk_values.specs.declared.value.Image.{Image}
use Rattle.id_pairs.specs.Carrying.Carried.{carried_image}
use Rattle.law_server.specs.Rows.Images.{IsRenamedImage}
use Rattle.twin_tables.proofs.Renamed.{image_renamed, renamed_image, sets_so}
use Rattle.replay_walk.proofs.twins.twin_images.Goals as goal

pub returns : goal.returns
returns c =
    let pairs = c.args.map.now.pairs in
    let carried = λ (x y : Image). carried_image pairs x ≡ Some y in
    let xs = c.as_slice.result.now in
    let ys = c.as_slice-2.result.now in
    let to = sets_so carried (IsRenamedImage pairs) (image_renamed pairs c.know_map.ensures) xs ys in
    let back = sets_so (IsRenamedImage pairs) carried (renamed_image pairs c.know_map.ensures) xs ys in
    rw (← c.as_slice.ensures, ← c.as_slice-2.ensures) (IfOk-weaker c.twin_sets.result
    (λ (twins : Bool). IsTrue twins ↔ AreSets carried xs ys)
    (λ (twins : Bool). IsTrue twins ↔ AreSets (IsRenamedImage pairs) xs ys)
    (λ twins is. (λ t. to (is.0 t), λ sets. is.1 (back sets))) c.twin_sets.ensures)
