use Rattle.std.proofs.Common.{◌≡◌, ◌∙◌, ℕ, ap, arith}
use Rattle.std.specs.Prelude.{Some}
use Rattle.capture_recorder.proofs.Saying.{differ_last}
use Rattle.capture_recorder.proofs.evidence.first_difference.Goals as goal

pub returns-else-kept-said : goal.returns-else-kept-said
returns-else-kept-said c =
    let place = c.loop-place.place in
    let here : c.min-both.result ≡ place = omega (arith, c.loop-place-test.false, c.loop-place.auto.place-end) in
    record { place = ap (λ (n : ℕ). Some n) here ∙ differ_last c.args.kept.now c.args.said.now place (omega (arith, here, c.min-both.ensures)) c.loop-place.invariant c.if-kept-said.false }
