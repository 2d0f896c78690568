use Rattle.std.proofs.Common.{◌≡◌, ◌∙◌, ◌↔◌, None, Some, sym, ap}
use Rattle.std.proofs.lemmas.Option.{none-some, same_Some}
use Rattle.desk_values.specs.declared.value.Image.{Image}
use Rattle.twin_tables.proofs.Renamed.{image_renamed, renamed_image}
use Rattle.twin_tables.proofs.judging.is_twin.Goals as goal

pub returns-in-Some : goal.returns-in-Some
returns-in-Some c =
    let pairs = c.args.map.now.pairs in
    let image = c.args.image.now in
    let other = c.args.other.now in
    let has = sym c.in_ok-carried.ensures ∙ c.in-Some.is in (
      λ same. image_renamed pairs c.know_map.ensures image other (has ∙ ap (λ (i : Image). Some i) (c.same.ensures.0 same)),
      λ t. c.same.ensures.1 (same_Some c.in-Some.carried other (sym has ∙ renamed_image pairs c.know_map.ensures image other t)),
    )

pub returns-in-None : goal.returns-in-None
returns-in-None c = (
  λ t. absurd cc,
  λ t. absurd (none-some c.args.other.now (sym (sym c.in_ok-carried.ensures ∙ c.in-None.is) ∙ renamed_image c.args.map.now.pairs c.know_map.ensures c.args.image.now c.args.other.now t)),
)
