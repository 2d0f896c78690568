-- Where no id stands twice on one side, ids are equal exactly where their images are.
use Rattle.std.proofs.Common.{◌≡◌, Bool, true, false, List, [], ◌∷◌, map, refl, sym, ◌∙◌, ap, subst, ⊎_elim}
use Rattle.std.specs.List.{AllByRecursion, Contains, IsDistinct}
use Rattle.id_pairs.specs.declared.Id.{Id}
use Rattle.id_pairs.specs.Ids.{same_id}
use Rattle.id_pairs.specs.Pairs.{HasNoIdTwice, IdPair}
use Rattle.id_pairs.proofs.SameIds.{same_decides, same_equivalence}
use Rattle.std.proofs.lemmas.Map.Views.{Contains-from_lookup, lookup-from_Contains}
use Rattle.std.proofs.lemmas.Bool.{both_ways}
use Rattle.law_server.specs.Rows.Laws.{ImagesArePairs}
use Rattle.desk_schema.proofs.Members.{Contains-cases, Contains-here, Contains-none, Contains-there}

mapped : {X Y : Type 0} (f : X → Y) (xs : List X) (x : X) → Contains xs x → Contains (map f xs) (f x)
mapped f [] x c = absurd (Contains-none x c)
mapped {X} {Y} f (y ∷ ys) x c = ⊎_elim
    (λ e. let P : X → Type 0 = λ z. Contains (f y ∷ map f ys) (f z) in subst P e (Contains-here (f y) (map f ys)))
    (λ later. Contains-there (f y) (map f ys) (f x) (mapped f ys x later))
    (Contains-cases y ys x c)

-- an id that is apart from all is none of them
apart : (id : Id) (ids : List Id) → AllByRecursion (λ y. same_id id y ≡ false) ids → (other : Id) → id ≡ other → Contains ids other → ⊥
apart id [] all other e c = Contains-none other c
apart id (first ∷ ids) all other e c = ⊎_elim
    (λ is. both_ways (same_id id first) all.0 ((same_decides id first).1 (e ∙ sym is)))
    (λ later. apart id ids all.1 other e later)
    (Contains-cases first ids other c)

-- of two pairs with one id on one side, the other side is the same
module _ (side far : IdPair → Id) where
  one_far : (pairs : List IdPair) → IsDistinct same_id (map side pairs) → (p q : IdPair) → Contains pairs p → Contains pairs q → side p ≡ side q → far p ≡ far q
  unfolding IsDistinct
  one_far [] distinct p q c d same = absurd (Contains-none p c)
  one_far (first ∷ pairs) distinct p q c d same =
      ⊎_elim
      (λ e. ⊎_elim
      (λ g. ap far (sym e ∙ g))
      (λ later. absurd (apart (side first) (map side pairs) distinct.0 (side q) (ap side e ∙ same) (mapped side pairs q later)))
      (Contains-cases first pairs q d))
      (λ later. ⊎_elim
      (λ g. absurd (apart (side first) (map side pairs) distinct.0 (side p) (ap side g ∙ sym same) (mapped side pairs p later)))
      (λ also. one_far pairs distinct.1 p q later also same)
      (Contains-cases first pairs q d))
      (Contains-cases first pairs p c)

pub either_both : (s t : Bool) → (s ≡ true → t ≡ true) → (t ≡ true → s ≡ true) → s ≡ t
either_both true t f g = sym (f refl)
either_both false true f g = g refl
either_both false false f g = refl

pub same_ids : (pairs : List IdPair) → HasNoIdTwice pairs → (a b x y : Id) → Contains pairs (a, x) → Contains pairs (b, y) → same_id a b ≡ same_id x y
same_ids pairs once a b x y c d = either_both (same_id a b) (same_id x y)
    (λ e. (same_decides x y).1 (one_far (λ (p : IdPair). p.0) (λ (p : IdPair). p.1) pairs once.captured (a, x) (b, y) c d ((same_decides a b).0 e)))
    (λ e. (same_decides a b).1 (one_far (λ (p : IdPair). p.1) (λ (p : IdPair). p.0) pairs once.replayed (a, x) (b, y) c d ((same_decides x y).0 e)))

pub image_is : ImagesArePairs
image_is pairs id image once = (lookup-from_Contains same_equivalence id image pairs once.captured, Contains-from_lookup (λ a b e. (same_decides a b).0 e) id image pairs)
