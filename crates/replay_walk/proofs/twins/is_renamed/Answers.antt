use Rattle.std.proofs.Common.{◌∙◌, sym}
use Rattle.twin_tables.proofs.Renamed.{by_image, by_no_image}
use Rattle.replay_walk.proofs.twins.is_renamed.Goals as goal

pub returns-in-Some : goal.returns-in-Some
returns-in-Some c =
    let by = by_image c.args.map.now.pairs c.know_map.ensures c.args.value.now c.args.other.now c.in-Some.image (sym c.in_ok-image.ensures ∙ c.in-Some.is) in
    (λ same. by.0 (c.same.ensures.0 same), λ t. c.same.ensures.1 (by.1 t))

pub returns-in-None : goal.returns-in-None
returns-in-None c = (λ t. absurd cc, λ t. absurd (by_no_image c.args.map.now.pairs c.know_map.ensures c.args.value.now c.args.other.now (sym c.in_ok-image.ensures ∙ c.in-None.is) t))
