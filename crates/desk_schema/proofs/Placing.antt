-- A list with one item set.
use Rattle.std.proofs.Common.{◌≡◌, ℕ, zero, suc, ◌<◌, List, [], ◌∷◌, length, get_or, set, refl, ap, arith}
use Rattle.desk_schema.specs.Change.{change_at}

pub set_is_change : {X : Type 0} (f : X → X) (n : ℕ) (xs : List X) (d x : X) → n < length xs → x ≡ f (get_or xs n d) → set xs n x ≡ change_at f n xs
set_is_change f n [] d x within is = absurd (omega (arith, within))
set_is_change f zero (y ∷ ys) d x within is = ap (λ z. z ∷ ys) is
set_is_change f (suc n) (y ∷ ys) d x within is = ap (λ zs. y ∷ zs) (set_is_change f n ys d x (omega (arith, within)) is)

pub got_same : {X : Type 0} (xs : List X) (n : ℕ) (d e : X) → n < length xs → get_or xs n d ≡ get_or xs n e
got_same [] n d e within = absurd (omega (arith, within))
got_same (y ∷ ys) zero d e within = refl
got_same (y ∷ ys) (suc n) d e within = got_same ys n d e (omega (arith, within))
