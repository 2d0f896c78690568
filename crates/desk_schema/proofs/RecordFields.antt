-- The fields of a record, in turn.
use Rattle.std.proofs.Common.{◌≡◌, ◌∙◌, ℕ, zero, suc, ◌+◌, ◌<◌, List, [], ◌∷◌, ◌++◌, length, get_or, take, Some, refl, sym, ap, arith}
use Rattle.std.specs.List.{cons_option}
use Rattle.std.proofs.lemmas.List.{take_more}
use Rattle.csv.specs.Records.{field_at}

got_field : (all : List (List ℕ)) (i : ℕ) (d : List ℕ) → i < length all → field_at all i ≡ Some (get_or all i d)
unfolding field_at
got_field [] i d within = absurd (omega (arith, within))
got_field (x ∷ xs) zero d within = refl
got_field (x ∷ xs) (suc i) d within = got_field xs i d (omega (arith, within))

pub taken_field : (all : List (List ℕ)) (i : ℕ) → i < length all → take i all ++ cons_option (field_at all i) [] ≡ take (i + 1) all
taken_field all i within = ap (λ o. take i all ++ cons_option o []) (got_field all i [] within) ∙ sym (take_more all i [] within)
