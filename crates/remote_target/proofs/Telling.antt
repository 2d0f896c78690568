-- How the refusal of a line is told.
use Rattle.std.proofs.Common.{◌≡◌, ◌∙◌, ℕ, zero, suc, ◌<◌, inl, inr, List, [], ◌∷◌, length, map, get_or, Option, Some, refl, sym, ap, arith}
use Rattle.std.specs.List.{Any}
use Rattle.remote_link.specs.declared.link_err.LinkErr.{LinkErr}
use Rattle.remote_link.specs.declared.link_err.LinkErr.TheVariants as refusal
use Rattle.remote_target.specs.declared.line.Line.{Line}
use Rattle.remote_target.specs.declared.remote_err.RemoteErr.{RemoteErr}
use Rattle.remote_target.specs.Inside.{IsRefused, refusal_on, told}
use Rattle.std.proofs.Common.{Err}

-- one that refused is one of the lines
pub any_refused : {L : Type 0} (lines : List (Line L)) (i : ℕ) (line : Line L) → i < length lines → line ≡ get_or lines i line → (r : LinkErr) → line.spoken.refusal ≡ Some r → Any (λ (x : Option LinkErr). x ≡ Some r) (map refusal_on lines)
any_refused [] i line within is r refused = absurd (omega (arith, within))
any_refused {L = L} (first ∷ lines) zero line within is r refused = (zero, Some r, omega arith, ap (λ (l : Line L). l.spoken.refusal) (sym is) ∙ refused, refl)
any_refused (first ∷ lines) (suc i) line within is r refused =
    let there = any_refused lines i line (omega (arith, within)) is r refused in
    (suc there.0, there.1, (let less = there.2 in omega (arith, less)), there.3, there.4)

pub told_is : (r : LinkErr) (refusals : List (Option LinkErr)) (error : RemoteErr) → error ≡ told r → Any (λ (x : Option LinkErr). x ≡ Some r) refusals → IsRefused refusals (Err error)
told_is refusal.Failed refusals error is there = (inl is, λ link. there)
told_is refusal.Memory refusals error is there = (inr is, λ link. absurd (let clash = sym is ∙ link in cc))
