-- The lines of pairs, one after the other.
use Rattle.std.proofs.Common.{◌≡◌, ◌∙◌, ℕ, zero, suc, List, [], ◌∷◌, ◌++◌, Some, append_assoc, drop, slice_get, sym, ap}
use Rattle.std.specs.List.{flat_map}
use Rattle.id_pairs.specs.Pairs.{IdPair}
use Rattle.remap_ids.specs.MapsText.{pair_line}

rest_from : (pairs : List IdPair) (place : ℕ) (pair : IdPair) → slice_get pairs place ≡ Some pair → drop place pairs ≡ pair ∷ drop (suc place) pairs
rest_from [] place pair at = absurd (cc)
rest_from (first ∷ others) zero pair at = let same : first ≡ pair = cc in ap (λ (p : IdPair). p ∷ others) same
rest_from (first ∷ others) (suc place) pair at = rest_from others place pair at

-- the line of one more pair
pub line_more : (pairs : List IdPair) (place next : ℕ) (pair : IdPair) (bytes after whole : List ℕ) → next ≡ suc place → slice_get pairs place ≡ Some pair → after ≡ bytes ++ pair_line pair → bytes ++ flat_map pair_line (drop place pairs) ≡ whole → after ++ flat_map pair_line (drop next pairs) ≡ whole
line_more pairs place next pair bytes after whole follows at is so_far =
    rw follows (ap (λ (text : List ℕ). text ++ flat_map pair_line (drop (suc place) pairs)) is ∙ append_assoc bytes (pair_line pair) (flat_map pair_line (drop (suc place) pairs)) ∙ ap (λ (rest : List IdPair). bytes ++ flat_map pair_line rest) (sym (rest_from pairs place pair at)) ∙ so_far)
