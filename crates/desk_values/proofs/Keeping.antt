-- Bytes that begin as before.
use Rattle.std.proofs.Common.{◌≡◌, ℕ, List, [], ◌∷◌, ◌++◌, length, take, refl, sym, ◌∙◌, ap}
use Rattle.desk_values.specs.Inside.{IsKept}

take_less : (bytes front more : List ℕ) → take (length (front ++ more)) bytes ≡ front ++ more → take (length front) bytes ≡ front
take_less bytes [] more e = refl
take_less [] (x ∷ front) more e = absurd cc
take_less (y ∷ bytes) (x ∷ front) more e = let first : y ≡ x = cc in let others : take (length (front ++ more)) bytes ≡ front ++ more = cc in
    ap (λ z. z ∷ take (length front) bytes) first ∙ ap (λ zs. x ∷ zs) (take_less bytes front more others)

-- what keeps more keeps the front of it
pub kept_further : (old more middle new : List ℕ) → middle ≡ old ++ more → IsKept middle new → IsKept old new
kept_further old more middle new is kept = take_less new old more (ap (λ bytes. take (length bytes) new) (sym is) ∙ kept ∙ is)
