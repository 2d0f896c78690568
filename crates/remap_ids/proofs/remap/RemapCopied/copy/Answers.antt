use Rattle.std.proofs.Common.{◌∙◌, ◌++◌, ◌∷◌, [], sym}
use Rattle.remap_ids.specs.Services.{ServicePair}
use Rattle.remap_ids.proofs.Services.{taken}
use Rattle.remap_ids.proofs.remap.RemapCopied.copy.Goals as goal

pub loop-place-preserved : goal.loop-place-preserved
loop-place-preserved c =
    let pair : ServicePair = (c.pair_at.result.0.now, c.pair_at.result.1.now) in
    taken c.args.self.now c.loop-place.place pair c.pair_at.ensures.pair ∙ (λ i. c.loop-place.invariant i ++ pair ∷ []) ∙ sym c.in_ok-push.ensures
