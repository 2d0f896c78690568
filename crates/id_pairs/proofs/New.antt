-- Further pairs, where no id stands twice.
use Rattle.std.proofs.Common.{◌≡◌, ◌∙◌, Bool, false, List, [], ◌∷◌, ◌++◌, append_assoc, map, refl, sym, ap, subst}
use Rattle.std.specs.Prelude.{if◌then◌else◌}
use Rattle.std.proofs.lemmas.List.{append-nil, map-append}
use Rattle.std.specs.List.{AllByRecursion, IsDistinct, list_any}
use Rattle.id_pairs.specs.declared.Id.{Id}
use Rattle.id_pairs.specs.Ids.{same_id}
use Rattle.id_pairs.specs.Pairs.{IdPair, HasNoIdTwice, is_known, with_new, all_new}
use Rattle.id_pairs.proofs.SameIds.{same_equivalence}

apart_from : (id other : Id) (ids later : List Id) → AllByRecursion (λ id. same_id other id ≡ false) (ids ++ id ∷ later) → same_id other id ≡ false
apart_from id other [] later all = all.0
apart_from id other (x ∷ ids) later all = apart_from id other ids later all.1

-- what stands later is not among those before it
not_before : (id : Id) (ids later : List Id) → IsDistinct same_id (ids ++ id ∷ later) → list_any (same_id id) ids ≡ false
unfolding IsDistinct
not_before id [] later apart = refl
not_before id (x ∷ ids) later apart = rw (same_equivalence.symm id x, apart_from id x ids later apart.0) (not_before id ids later apart.1)

unknown : (pairs : List IdPair) (pair : IdPair) (others : List IdPair) → HasNoIdTwice (pairs ++ pair ∷ others) → is_known pairs pair ≡ false
unknown pairs pair others once =
    let captured = not_before pair.0 (map (λ (known : IdPair). known.0) pairs) (map (λ (known : IdPair). known.0) others) (subst (IsDistinct same_id) (map-append (λ (known : IdPair). known.0) pairs (pair ∷ others)) once.captured) in
    let replayed = not_before pair.1 (map (λ (known : IdPair). known.1) pairs) (map (λ (known : IdPair). known.1) others) (subst (IsDistinct same_id) (map-append (λ (known : IdPair). known.1) pairs (pair ∷ others)) once.replayed) in
    rw (captured, replayed) refl

-- where no id stands twice, all of them go last
pub all_go_last : (pairs others : List IdPair) → HasNoIdTwice (pairs ++ others) → all_new pairs others ≡ pairs ++ others
all_go_last pairs [] once = sym (append-nil pairs)
all_go_last pairs (pair ∷ others) once =
    let on : with_new pairs pair ≡ pairs ++ pair ∷ [] = ap (λ (known : Bool). if known then pairs else pairs ++ pair ∷ []) (unknown pairs pair others once) in
    let whole : (pairs ++ pair ∷ []) ++ others ≡ pairs ++ pair ∷ others = append_assoc pairs (pair ∷ []) others in
    ap (λ (so_far : List IdPair). all_new so_far others) on ∙ all_go_last (pairs ++ pair ∷ []) others (subst HasNoIdTwice (sym whole) once) ∙ whole
