use Rattle.std.proofs.Common.{◌≡◌, ◌∙◌, ◌++◌, ◌∷◌, [], refl, sym}
use Rattle.remap_ids.proofs.Services.{same_text, taken}
use Rattle.remap_ids.proofs.remap.RemapSame.same.Goals as goal

pub loop-place-preserved : goal.loop-place-preserved
loop-place-preserved c =
    let l = c.loop-place in
    let here = c.pair_at.result in
    let there = c.pair_at-in-loop-place.result in
    let texts : here.0.now ≡ there.0.now = same_text here.0.now there.0.now c.if-ne.ensures in
    let sents : here.1.now ≡ there.1.now = c.if-not-same.ensures.0 refl in
    record {
      front = taken c.args.self.now l.place (here.0.now, here.1.now) c.pair_at.ensures.pair ∙ (λ i. l.invariant.front i ++ (texts i, sents i) ∷ []) ∙ sym (taken c.args.other.now l.place (there.0.now, there.1.now) c.pair_at-in-loop-place.ensures.pair);
      length = l.invariant.length;
    }
